use Rattle.std.proofs.Common.{arith}
use Rattle.lsm_pick.specs.Fifo.{is_expired}
use Rattle.lsm_pick.proofs.IdSets.{adds_if}
use Rattle.lsm_pick.proofs.fifo.Fifo.push_expired.Goals as goal

pub loop-table-preserved : goal.loop-table-preserved
loop-table-preserved c =
    adds_if (is_expired c.args.self.now) c.args.run.now c.loop-table.table-index c.table-item.result c.is_expired.result c.args.ids.now.keys c.loop-table.ids.keys c.push_if.new.ids.keys (omega arith) c.table-item.is c.is_expired.ensures c.loop-table.invariant c.in_ok-push_if.ensures
