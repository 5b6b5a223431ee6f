use Rattle.std.proofs.Common.{◌≡◌, ℕ, Bool, true, false, Option, None, ap, sym, subst, ◌∙◌}
use Rattle.std.specs.Option.{is_some}
use Rattle.std.proofs.lemmas.Result.{IfOk-weaker}
use Rattle.lsm_store.specs.World.{World}
use Rattle.lsm_versions.specs.Levels.{SeenVersion}
use Rattle.lsm_commit.specs.Foreign.{AtRest, Passes}
use Rattle.lsm_commit.specs.Stored.{AreOnDisk}
use Rattle.lsm_flush.specs.Jobs.{SeenJob, SeenWritten}
use Rattle.lsm_state.specs.Core.{Core, Seen}
use Rattle.lsm_state.specs.Commits.{UpholdsFiles, Upholds}
use Rattle.lsm_state.specs.Flushes.{MayInstall, Installs, Doubts, IsFlushDeed, spent}
use Rattle.lsm_state.proofs.Registering.{none_of, spent_upholds, may_install, install_upholds}
use Rattle.lsm_state.proofs.tree.TreeState.register.Goals as goal

-- the flush of the job is closed
closed_by : (now mid : Core) (job : SeenWritten) (n : ℕ) (begun : SeenJob) → mid ≡ spent n now → n ≡ begun.number → begun ≡ job.job → mid ≡ spent job.job.number now
closed_by now mid job n begun is number same = is ∙ ap (λ m. spent m now) (number ∙ ap (λ j. j.number) same)

closed_upholds : {S : Type 0} (world : S → World) (now mid : Seen S) (job : SeenWritten) → mid.core ≡ spent job.job.number now.core → mid.store ≡ now.store → AtRest (world now.store) → Upholds (world now.store) (world mid.store) now.core mid.core
closed_upholds world now mid job closed store rest =
    subst (λ s. Upholds (world now.store) (world s) now.core mid.core) (sym store)
    (subst (Upholds (world now.store) (world now.store) now.core) (sym closed) (spent_upholds (world now.store) now.core job.job.number rest))

-- no outcome was unknown
certain_by : (now mid : Core) (job : SeenWritten) → mid ≡ spent job.job.number now → (lost : Option SeenVersion) → lost ≡ mid.lost → (told : Bool) → told ≡ is_some lost → told ≡ false → now.lost ≡ None
certain_by now mid job closed lost is told has none = none_of now.lost (sym (has ∙ ap is_some (is ∙ ap (λ k. k.lost) closed)) ∙ none)

pub returns-then-is_some-clause-upholds : goal.returns-then-is_some-clause-upholds
returns-then-is_some-clause-upholds g c tells =
    closed_upholds g.S.Store.world c.args.self.now c.close_flush.new.self c.args.job (closed_by c.args.self.now.core c.close_flush.new.self.core c.args.job c.number.result c.job.result.now c.close_flush.ensures.core c.number.ensures c.job.ensures) c.close_flush.ensures.store
    (subst (λ (t : Seen g.row.S.Denot). AtRest (g.S.Store.world t.store)) c.self.view_is (c.crashes_leave_versions.ensures tells))

pub returns-then-is_some-clause-marks : goal.returns-then-is_some-clause-marks
returns-then-is_some-clause-marks g c = c.flushes_are_deeds.ensures.spends c.args.job.watermark c.args.job.job.number c.args.self.now.core c.facts.ensures

pub install-installed-requires : goal.install-installed-requires
install-installed-requires g c =
    let closed = closed_by c.args.self.now.core c.close_flush.new.self.core c.args.job c.number.result c.job.result.now c.close_flush.ensures.core c.number.ensures c.job.ensures in
    let certain = certain_by c.args.self.now.core c.close_flush.new.self.core c.args.job closed c.self-2.inside.lost (ap (λ t. t.core.lost) c.self-2.view_is) c.is_some.result c.is_some.ensures c.if-is_some.false in
    subst (MayInstall c.args.job) (sym closed) (may_install c.args.job c.args.self.now.core (c.requires.0 c.if-current.true) certain c.facts-2.ensures.run c.facts.ensures.tables)

pub returns-then-current-clause-upholds : goal.returns-then-current-clause-upholds
returns-then-current-clause-upholds g c tells =
    let w = g.S.Store.world in
    let now = c.args.self.now in
    let new = c.install-installed.new.self in
    let files = subst (λ k. AreOnDisk (w now.store) c.args.job.tables → UpholdsFiles (w now.store) (w new.store) k new.core) (closed_by c.args.self.now.core c.close_flush.new.self.core c.args.job c.number.result c.job.result.now c.close_flush.ensures.core c.number.ensures c.job.ensures)
    (subst (λ s. AreOnDisk (w s) c.args.job.tables → UpholdsFiles (w s) (w new.store) c.close_flush.new.self.core new.core) c.close_flush.ensures.store (c.install-installed.ensures.upholds tells)) in
    record {
      files = install_upholds c.args.job now.core (c.requires.0 c.if-current.true) (w now.store) (w new.store) new.core files;
      passes = subst (λ s. Passes (w s) (w new.store)) c.close_flush.ensures.store (c.install-installed.ensures.passes tells);
    }

pub returns-then-current-clause-marks : goal.returns-then-current-clause-marks
returns-then-current-clause-marks g c = c.flushes_are_deeds.ensures.spends c.args.job.watermark c.args.job.job.number c.args.self.now.core c.facts.ensures

pub returns-then-current-clause-deeds : goal.returns-then-current-clause-deeds
returns-then-current-clause-deeds g c =
    let job = c.args.job in
    let now = c.args.self.now.core in
    let new = c.install-installed.new.self.core in
    let closed = closed_by c.args.self.now.core c.close_flush.new.self.core c.args.job c.number.result c.job.result.now c.close_flush.ensures.core c.number.ensures c.job.ensures in
    let certain = certain_by c.args.self.now.core c.close_flush.new.self.core c.args.job closed c.self-2.inside.lost (ap (λ t. t.core.lost) c.self-2.view_is) c.is_some.result c.is_some.ensures c.if-is_some.false in
    IfOk-weaker c.install-installed.result (λ a. (a.installed ≡ true) × Installs job a.cleaned c.close_flush.new.self.core new) (λ a. a.installed ≡ true → IsFlushDeed job now new)
    (λ a done is. c.flushes_are_deeds.ensures.installed job a.cleaned now new c.facts.ensures certain c.facts-2.ensures (c.requires.0 c.if-current.true) (subst (λ k. Installs job a.cleaned k new) closed done.1)) c.install-installed.ensures.installs.ok

pub returns-then-current-clause-lost : goal.returns-then-current-clause-lost
returns-then-current-clause-lost g c unknown =
    let new = c.install-installed.new.self.core in
    let closed = closed_by c.args.self.now.core c.close_flush.new.self.core c.args.job c.number.result c.job.result.now c.close_flush.ensures.core c.number.ensures c.job.ensures in
    let certain = certain_by c.args.self.now.core c.close_flush.new.self.core c.args.job closed c.self-2.inside.lost (ap (λ t. t.core.lost) c.self-2.view_is) c.is_some.result c.is_some.ensures c.if-is_some.false in
    c.flushes_are_deeds.ensures.lost c.args.job c.args.self.now.core new c.facts.ensures certain c.facts-2.ensures (c.requires.0 c.if-current.true) (subst (λ k. Doubts c.args.job k new) closed (c.install-installed.ensures.installs.unknown unknown))

pub returns-clause-upholds : goal.returns-clause-upholds
returns-clause-upholds g c tells =
    closed_upholds g.S.Store.world c.args.self.now c.close_flush.new.self c.args.job (closed_by c.args.self.now.core c.close_flush.new.self.core c.args.job c.number.result c.job.result.now c.close_flush.ensures.core c.number.ensures c.job.ensures) c.close_flush.ensures.store
    (subst (λ (t : Seen g.row.S.Denot). AtRest (g.S.Store.world t.store)) c.self.view_is (c.crashes_leave_versions.ensures tells))

pub returns-clause-marks : goal.returns-clause-marks
returns-clause-marks g c = c.flushes_are_deeds.ensures.spends c.args.job.watermark c.args.job.job.number c.args.self.now.core c.facts.ensures
