use Rattle.std.proofs.Common.{◌+◌, ◌∷◌, subst, sym}
use Rattle.lsm_memtable.specs.Memtables.{new_memtable}
use Rattle.lsm_versions.specs.Levels.{SeenVersion, empty_levels}
use Rattle.lsm_parts.specs.History.{versions_of}
use Rattle.lsm_state.specs.Kept.{KeepsIds, KeepsTables}
use Rattle.lsm_state.specs.Clearing.{cleared_in}
use Rattle.lsm_state.proofs.Clears.{ids_cleared, tables_cleared}
use Rattle.lsm_state.proofs.tree.TreeState.commit_clear.Goals as goal

pub commit-requires-clause-ids : goal.commit-requires-clause-ids
commit-requires-clause-ids g c =
    let i = c.self.inside in
    let now = c.args.self.now.core in
    let v : SeenVersion = record { id = i.history.latest.version.id + 1; log_from = i.seqno; levels = empty_levels } in
    subst (λ sv. KeepsIds (new_memtable now.next_memtable ∷ now.memtables) (record { latest = sv; older = versions_of now.history }) (now.next_memtable + 1)) (sym c.in-Ok.ensures.ok)
    (subst (λ t. KeepsIds (new_memtable t.core.next_memtable ∷ t.core.memtables) (record { latest = cleared_in t.core; older = versions_of t.core.history }) (t.core.next_memtable + 1)) c.self.view_is
    (ids_cleared i.memtables i.history i.next_memtable v i.seqno c.self.invariant.0))

pub commit-requires-clause-tables : goal.commit-requires-clause-tables
commit-requires-clause-tables g c =
    let i = c.self.inside in
    let now = c.args.self.now.core in
    subst (λ sv. KeepsTables now.flush (record { latest = sv; older = versions_of now.history }) now.next_table) (sym c.in-Ok.ensures.ok)
    (subst (λ t. KeepsTables t.core.flush (record { latest = cleared_in t.core; older = versions_of t.core.history }) t.core.next_table) c.self.view_is
    (tables_cleared i.flush i.history i.next_table i.next_memtable i.seqno c.self.invariant.1))
