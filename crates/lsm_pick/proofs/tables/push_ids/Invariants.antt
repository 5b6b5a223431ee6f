use Rattle.std.proofs.Common.{take}
use Rattle.lsm_pick.specs.Tables.{AddsIds}
use Rattle.lsm_pick.proofs.tables.push_ids.Given as goal

abbrev pub invariant-loop-table : goal.invariant-loop-table
invariant-loop-table l = AddsIds (take l.table-index l.tables) l.initial.ids.keys l.ids.keys
