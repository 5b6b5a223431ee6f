use Rattle.lsm_store.specs.World.{Same}
use Rattle.lsm_dump_parts.proofs.export.export_records.Given as goal

abbrev pub invariant-loop-number : goal.invariant-loop-number
invariant-loop-number g l =
    let w = g.S.Store.world in
    g.S.Store.tells → Same (w l.fn.store) (w l.store)
