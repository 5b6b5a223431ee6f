use Rattle.lsm_commit.proofs.Passing.{passes_beside, not_table}
use Rattle.std.proofs.Common.{◌≡◌, ℕ, List, subst, ◌∙◌}
use Rattle.lsm_store.specs.World.{LeavesOnly}
use Rattle.lsm_store.specs.Synced.{IsBeside, KeepsOthers}
use Rattle.lsm_manifest.specs.Names.{table_name}
use Rattle.lsm_commit.proofs.Beside.{removed_table_spares}
use Rattle.lsm_commit.proofs.removal.remove_table.Goals as goal

pub returns-clause-stored : goal.returns-clause-stored
returns-clause-stored g c tells =
    let w = g.S.Store.world in
    let old = w c.args.store.now in
    let new = w c.remove_name.new.store in
    let name : c.as_str.result.now ≡ table_name c.args.id = c.as_str.ensures.value ∙ c.table_name.ensures in
    let n = c.names_are_apart.ensures in
    let did = c.remove_name.ensures in
    removed_table_spares n.tables n.table_no_version n.table_not_current n.table_kind c.args.id old new c.ranges.id.fits (subst (λ (m : List ℕ). KeepsOthers m old new) name (did.keeps tells)) (subst (λ (m : List ℕ). LeavesOnly old new (IsBeside m old)) name (did.any_moment tells))

pub returns-clause-passes : goal.returns-clause-passes
returns-clause-passes g c tells =
    let w = g.S.Store.world in
    let old = w c.args.store.now in
    let new = w c.remove_name.new.store in
    let name : c.as_str.result.now ≡ table_name c.args.id = c.as_str.ensures.value ∙ c.table_name.ensures in
    let did = c.remove_name.ensures in
    passes_beside (table_name c.args.id) old new (not_table c.names_are_apart.ensures.table_kind c.args.id c.ranges.id.fits) (subst (λ (m : List ℕ). KeepsOthers m old new) name (did.keeps tells)) (subst (λ (m : List ℕ). LeavesOnly old new (IsBeside m old)) name (did.any_moment tells))
