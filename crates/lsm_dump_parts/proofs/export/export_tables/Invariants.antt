use Rattle.lsm_store.specs.World.{Same}
use Rattle.lsm_dump_parts.proofs.export.export_tables.Given as goal

abbrev pub invariant-loop-one : goal.invariant-loop-one
invariant-loop-one g l =
    let w = g.S.Store.world in
    g.S.Store.tells → Same (w l.fn.store) (w l.store)
