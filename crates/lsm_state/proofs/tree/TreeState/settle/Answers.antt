use Rattle.std.proofs.Common.{◌≡◌, ◌<◌, ◌∷◌, None, true, drop, length, ap, sym, subst, ◌∙◌, refl, option_to_list}
use Rattle.std.proofs.lemmas.Result.{IfOk-weaker}
use Rattle.std.specs.List.{AllByRecursion}
use Rattle.lsm_manifest.specs.Names.{version_name}
use Rattle.lsm_parts.specs.History.{SeenHistory, versions_of}
use Rattle.lsm_state.specs.Cleaning.{AreAbsent, LeavesNoFiles}
use Rattle.lsm_state.proofs.CleaningUp.{gone_versions, gone_tables}
use Rattle.lsm_commit.specs.Foreign.{Passes, passes_then}
use Rattle.lsm_versions.specs.Levels.{all_of}
use Rattle.lsm_commit.specs.Commits.{AreOthers}
use Rattle.lsm_commit.specs.Stored.{AreOnDisk}
use Rattle.lsm_state.specs.Core.{versions_left, written_of}
use Rattle.lsm_state.specs.Commits.{UpholdsFiles, committed}
use Rattle.lsm_state.specs.Cleaning.{Cleans}
use Rattle.lsm_state.specs.Settling.{with_version}
use Rattle.lsm_state.proofs.Upholding.{upheld_at}
use Rattle.lsm_state.proofs.Installing.{files_join}
use Rattle.lsm_state.proofs.Replacing.{settled}
use Rattle.lsm_state.proofs.tree.TreeState.settle.Given.{Over}
use Rattle.lsm_state.proofs.tree.TreeState.settle.Goals.{After-clean_up}
use Rattle.lsm_state.proofs.tree.TreeState.settle.Goals as goal

-- once the version is committed and cleaned up after: no outcome is unknown, a crash leaves what it may, foreign names stay
module _ (g : Over) (c : After-clean_up g) where
  certain : c.commit.new.self.core.lost ≡ None
  certain = ap (λ k. k.lost) c.in_ok-commit.ensures.commits.ok ∙ c.requires.certain

  upheld : g.S.Store.tells → AreOnDisk (g.S.Store.world c.args.self.now.store) (all_of c.args.version.levels) → UpholdsFiles (g.S.Store.world c.args.self.now.store) (g.S.Store.world c.clean_up.new.self.store) c.args.self.now.core c.clean_up.new.self.core
  upheld tells disk =
      let w = g.S.Store.world in
      let now = c.args.self.now in
      let mid = c.commit.new.self in
      let new = c.clean_up.new.self in
      let cleans = c.clean_up.ensures.cleans in
      let left : versions_left new.core ≡ versions_left mid.core = ap (λ sv. sv.version ∷ option_to_list new.core.lost) cleans.history.latest ∙ ap (λ k. mid.core.history.latest.version ∷ option_to_list k.lost) cleans.rest in
      files_join (w now.store) (w mid.store) (w new.store) now.core mid.core new.core left (c.commit.ensures.upholds tells disk) (c.clean_up.ensures.upholds tells certain).files

  passes : g.S.Store.tells → Passes (g.S.Store.world c.args.self.now.store) (g.S.Store.world c.clean_up.new.self.store)
  passes tells =
      let w = g.S.Store.world in
      passes_then (w c.args.self.now.store) (w c.commit.new.self.store) (w c.clean_up.new.self.store) (c.commit.ensures.passes tells) (c.clean_up.ensures.upholds tells certain).passes

pub returns-in_err-copy-clause-upholds : goal.returns-in_err-copy-clause-upholds
returns-in_err-copy-clause-upholds g c tells disk =
    (upheld_at g.S.Store.world c.args.self.now c.self.inside.store (ap (λ t. t.store) c.self.view_is) (c.crashes_leave_versions.ensures tells)).files

pub returns-then-not-clean_up-clause-upholds : goal.returns-then-not-clean_up-clause-upholds
returns-then-not-clean_up-clause-upholds g c = upheld g (goal.at.returns-then-not-clean_up-clause-upholds g c).After-clean_up

pub remove_gone-requires-clause-certain : goal.remove_gone-requires-clause-certain
remove_gone-requires-clause-certain g c = ap (λ k. k.lost) c.clean_up.ensures.cleans.rest ∙ ap (λ k. k.lost) c.in_ok-commit.ensures.commits.ok ∙ c.requires.certain

pub remove_gone-requires-clause-spares : goal.remove_gone-requires-clause-spares
remove_gone-requires-clause-spares g c = subst (AreOthers c.args.gone.now.keys) (sym (ap written_of c.clean_up.ensures.cleans.rest ∙ ap written_of c.in_ok-commit.ensures.commits.ok)) c.requires.spares

pub remove_gone-requires-clause-others : goal.remove_gone-requires-clause-others
remove_gone-requires-clause-others g c =
    let version = ap (λ sv. sv.version) c.clean_up.ensures.cleans.history.latest ∙ ap (λ k. k.history.latest.version) c.in_ok-commit.ensures.commits.ok in
    subst (λ u. AreOthers c.args.gone.now.keys (all_of u.levels)) (sym version) c.requires.others

pub returns-clause-settles : goal.returns-clause-settles
returns-clause-settles g c =
    let old = c.args.self.now.core in
    let v = c.args.version in
    let new = c.remove_gone.new.self.core in
    let latest = c.latest_version-latest.result.now in
    let number = c.get.ensures ∙ ap (λ t. t.core.seqno) c.self.view_is in
    let next_is = ap (λ s. record { active_memtable = latest.active_memtable; sealed_memtables = s; version = v; seqno = c.get.result }) c.in_ok-copy.ensures.ok ∙ ap (with_version c.get.result v) (c.latest_version-latest.ensures ∙ ap (λ t. t.core.history.latest) c.self.view_is) ∙ ap (λ n. with_version n v old.history.latest) number in
    let cleans : Cleans c.args.watermark true c.commit.new.self.core new = subst (Cleans c.args.watermark true c.commit.new.self.core) (sym c.remove_gone.ensures.core) c.if-not-clean_up.ensures.cleans in
    settled v c.args.watermark c.remove_gone.result old new c.remove_gone.ensures.only (subst (λ k. Cleans c.args.watermark true k new) (c.in_ok-commit.ensures.commits.ok ∙ ap (λ sv. committed sv old) next_is) cleans)

pub returns-clause-upholds : goal.returns-clause-upholds
returns-clause-upholds g c tells disk =
    let w = g.S.Store.world in
    let now = c.args.self.now in
    let new = c.clean_up.new.self in
    let end = c.remove_gone.new.self in
    files_join (w now.store) (w new.store) (w end.store) now.core new.core end.core (ap versions_left c.remove_gone.ensures.core) (upheld g (goal.at.returns-clause-upholds g c).After-clean_up tells disk) (c.remove_gone.ensures.upholds tells).files

pub returns-in_err-copy-clause-passes : goal.returns-in_err-copy-clause-passes
returns-in_err-copy-clause-passes g c tells =
    let w = g.S.Store.world in
    subst (λ t. Passes (w t.store) (w t.store)) c.self.view_is (c.crashes_leave_versions.ensures tells).passes

pub returns-then-not-clean_up-clause-passes : goal.returns-then-not-clean_up-clause-passes
returns-then-not-clean_up-clause-passes g c = passes g (goal.at.returns-then-not-clean_up-clause-passes g c).After-clean_up

pub returns-clause-passes : goal.returns-clause-passes
returns-clause-passes g c tells =
    let w = g.S.Store.world in
    passes_then (w c.args.self.now.store) (w c.clean_up.new.self.store) (w c.remove_gone.new.self.store) (passes g (goal.at.returns-clause-passes g c).After-clean_up tells) (c.remove_gone.ensures.upholds tells).passes

pub returns-clause-gone : goal.returns-clause-gone
returns-clause-gone g c tells =
    let w = g.S.Store.world in
    let now = c.args.self.now in
    let new = c.clean_up.new.self in
    let end = c.remove_gone.new.self in
    let n = length new.core.history.older in
    let gone = c.args.gone.now.keys in
    let were = subst (λ (h : SeenHistory). AllByRecursion (λ sv. sv.version.id < h.latest.version.id → (w new.store).gives (version_name sv.version.id) ≡ None) (drop n h.older)) (ap (λ k. k.history) c.in_ok-commit.ensures.commits.ok) (c.if-not-clean_up.ensures.gone tells refl) in
    let left = gone_versions (w new.store) (w end.store) c.args.version.id (versions_of now.core.history) n c.requires.tables.aged were (c.remove_gone.ensures.others tells) in
    let version = ap (λ k. k.history.latest.version) c.remove_gone.ensures.core ∙ ap (λ sv. sv.version) c.clean_up.ensures.cleans.history.latest ∙ ap (λ k. k.history.latest.version) c.in_ok-commit.ensures.commits.ok in
    IfOk-weaker c.remove_gone.result (λ _. AreAbsent (w end.store) gone) (λ _. LeavesNoFiles (w end.store) now.core.history end.core.history)
    (λ _ absent. record { tables = gone_tables (w end.store) gone c.args.version end.core.history.latest.version (all_of now.core.history.latest.version.levels) version c.requires.covers absent; versions = subst (λ k. AllByRecursion (λ sv. (w end.store).gives (version_name sv.version.id) ≡ None) (drop (length k.history.older) (versions_of now.core.history))) (sym c.remove_gone.ensures.core) left }) (c.remove_gone.ensures.gone tells)
