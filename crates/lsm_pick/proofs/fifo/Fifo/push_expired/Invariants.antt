use Rattle.std.proofs.Common.{take, filter}
use Rattle.lsm_pick.specs.Fifo.{is_expired}
use Rattle.lsm_pick.specs.Tables.{AddsIds}
use Rattle.lsm_pick.proofs.fifo.Fifo.push_expired.Given as goal

abbrev pub invariant-loop-table : goal.invariant-loop-table
invariant-loop-table l = AddsIds (filter (is_expired l.self) (take l.table-index l.run)) l.initial.ids.keys l.ids.keys
