use Rattle.std.proofs.Common.{◌<◌, None, drop, length}
use Rattle.std.specs.List.{AllByRecursion}
use Rattle.lsm_manifest.specs.Names.{version_name}
use Rattle.lsm_parts.specs.History.{SeenHistory}
use Rattle.lsm_state.proofs.CleaningUp.{gone_versions}
use Rattle.lsm_commit.specs.Foreign.{Passes, passes_then}
use Rattle.std.proofs.Common.{◌≡◌, ◌∷◌, ◌++◌, ap, sym, subst, ◌∙◌, refl, option_to_list}
use Rattle.std.specs.List.Sorted.{IsPermutation}
use Rattle.lsm_versions.specs.Levels.{all_of}
use Rattle.lsm_parts.specs.History.{versions_of}
use Rattle.lsm_state.specs.Kept.{KeepsIds, KeepsTables}
use Rattle.lsm_state.specs.Core.{versions_left}
use Rattle.lsm_state.specs.Flushes.{IsFlushedOf, MayInstall}
use Rattle.lsm_state.proofs.Upholding.{upheld_at}
use Rattle.lsm_state.proofs.Installing.{ids_flushed, tables_flushed, flushed_on_disk, files_join}
use Rattle.lsm_state.proofs.tree.TreeState.install.Goals as goal

pub returns-then-number-ge-LIMIT-clause-upholds : goal.returns-then-number-ge-LIMIT-clause-upholds
returns-then-number-ge-LIMIT-clause-upholds g c tells disk =
    (upheld_at g.S.Store.world c.args.self.now c.self.inside.store (ap (λ t. t.store) c.self.view_is) (c.crashes_leave_versions.ensures tells)).files

pub returns-in_err-next-clause-upholds : goal.returns-in_err-next-clause-upholds
returns-in_err-next-clause-upholds g c tells disk =
    (upheld_at g.S.Store.world c.args.self.now c.self.inside.store (ap (λ t. t.store) c.self.view_is) (c.crashes_leave_versions.ensures tells)).files

pub commit-requires-clause-ids : goal.commit-requires-clause-ids
commit-requires-clause-ids g c =
    let i = c.self.inside in
    let next = c.in_ok-next.next in
    let flushed = subst (λ sv. IsFlushedOf c.args.job.now c.get-number.result sv next) c.latest_version-latest.ensures c.in_ok-next.ensures.ok in
    subst (λ t. KeepsIds t.core.memtables (record { latest = next; older = versions_of t.core.history }) t.core.next_memtable) c.self.view_is
    (ids_flushed c.args.job.now c.get-number.result i.history next flushed i.memtables i.next_memtable c.self.invariant.0)

pub commit-requires-clause-tables : goal.commit-requires-clause-tables
commit-requires-clause-tables g c =
    let i = c.self.inside in
    let job = c.args.job.now in
    let next = c.in_ok-next.next in
    let flushed = subst (λ sv. IsFlushedOf job c.get-number.result sv next) c.latest_version-latest.ensures c.in_ok-next.ensures.ok in
    let same = subst (λ sv. IsPermutation (job.tables ++ all_of sv.version.levels) (all_of next.version.levels)) c.latest_version-latest.ensures c.in_ok-next.ensures.tables in
    let may = subst (λ t. MayInstall job t.core) (sym c.self.view_is) c.requires in
    subst (λ t. KeepsTables t.core.flush (record { latest = next; older = versions_of t.core.history }) t.core.next_table) c.self.view_is
    (tables_flushed job c.get-number.result i.history next flushed i.flush i.next_table may.closed same may.below c.self.invariant.1)

pub returns-in_err-commit-clause-upholds : goal.returns-in_err-commit-clause-upholds
returns-in_err-commit-clause-upholds g c tells disk stored =
    let w = g.S.Store.world in
    let now = c.args.self.now in
    let job = c.args.job.now in
    let next = c.in_ok-next.next in
    let same = subst (λ sv. IsPermutation (job.tables ++ all_of sv.version.levels) (all_of next.version.levels)) (c.latest_version-latest.ensures ∙ ap (λ t. t.core.history.latest) c.self.view_is) c.in_ok-next.ensures.tables in
    c.commit.ensures.upholds tells (flushed_on_disk (w now.store) now.core job.tables (all_of next.version.levels) same disk stored) stored

pub returns-clause-upholds : goal.returns-clause-upholds
returns-clause-upholds g c tells disk stored =
    let w = g.S.Store.world in
    let now = c.args.self.now in
    let mid = c.commit.new.self in
    let new = c.clean_up-cleaned.new.self in
    let job = c.args.job.now in
    let next = c.in_ok-next.next in
    let same = subst (λ sv. IsPermutation (job.tables ++ all_of sv.version.levels) (all_of next.version.levels)) (c.latest_version-latest.ensures ∙ ap (λ t. t.core.history.latest) c.self.view_is) c.in_ok-next.ensures.tables in
    let cleans = c.clean_up-cleaned.ensures.cleans in
    let lost : new.core.lost ≡ mid.core.lost = ap (λ k. k.lost) cleans.rest in
    let left : versions_left new.core ≡ versions_left mid.core = ap (λ sv. sv.version ∷ option_to_list new.core.lost) cleans.history.latest ∙ ap (λ o. mid.core.history.latest.version ∷ option_to_list o) lost in
    let certain = ap (λ k. k.lost) c.in_ok-commit.ensures.commits.ok ∙ c.requires.certain in
    files_join (w now.store) (w mid.store) (w new.store) now.core mid.core new.core left (λ s. c.commit.ensures.upholds tells (flushed_on_disk (w now.store) now.core job.tables (all_of next.version.levels) same disk s) s) (c.clean_up-cleaned.ensures.upholds tells certain).files stored

pub returns-then-number-ge-LIMIT-clause-passes : goal.returns-then-number-ge-LIMIT-clause-passes
returns-then-number-ge-LIMIT-clause-passes g c tells =
    let w = g.S.Store.world in
    subst (λ t. Passes (w t.store) (w t.store)) c.self.view_is (c.crashes_leave_versions.ensures tells).passes

pub returns-in_err-next-clause-passes : goal.returns-in_err-next-clause-passes
returns-in_err-next-clause-passes g c tells =
    let w = g.S.Store.world in
    subst (λ t. Passes (w t.store) (w t.store)) c.self.view_is (c.crashes_leave_versions.ensures tells).passes

pub returns-clause-passes : goal.returns-clause-passes
returns-clause-passes g c tells =
    let w = g.S.Store.world in
    let certain = ap (λ k. k.lost) c.in_ok-commit.ensures.commits.ok ∙ c.requires.certain in
    passes_then (w c.args.self.now.store) (w c.commit.new.self.store) (w c.clean_up-cleaned.new.self.store) (c.commit.ensures.passes tells) (c.clean_up-cleaned.ensures.upholds tells certain).passes

pub returns-clause-gone : goal.returns-clause-gone
returns-clause-gone g c tells whole =
    let w = g.S.Store.world in
    let i = c.self.inside in
    let job = c.args.job.now in
    let next = c.in_ok-next.next in
    let now = c.args.self.now in
    let new = c.clean_up-cleaned.new.self in
    let n = length new.core.history.older in
    let flushed = subst (λ sv. IsFlushedOf job c.get-number.result sv next) c.latest_version-latest.ensures c.in_ok-next.ensures.ok in
    let same = subst (λ sv. IsPermutation (job.tables ++ all_of sv.version.levels) (all_of next.version.levels)) c.latest_version-latest.ensures c.in_ok-next.ensures.tables in
    let may = subst (λ t. MayInstall job t.core) (sym c.self.view_is) c.requires in
    let kept = tables_flushed job c.get-number.result i.history next flushed i.flush i.next_table may.closed same may.below c.self.invariant.1 in
    let low = subst (λ t. AllByRecursion (λ sv. sv.version.id < next.version.id) (versions_of t.core.history)) c.self.view_is kept.aged in
    let were = subst (λ (h : SeenHistory). AllByRecursion (λ sv. sv.version.id < h.latest.version.id → (w new.store).gives (version_name sv.version.id) ≡ None) (drop n h.older)) (ap (λ k. k.history) c.in_ok-commit.ensures.commits.ok) (c.clean_up-cleaned.ensures.gone tells whole) in
    gone_versions (w new.store) (w new.store) next.version.id (versions_of now.core.history) n low were (λ i. refl)
