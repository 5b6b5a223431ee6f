use Rattle.std.proofs.Common.{◌≡◌, ◌≤◌, ◌*◌, ◌-◌, ◌^◌, take}
use Rattle.lsm_pick.specs.Tables.{bytes_below}
use Rattle.lsm_pick.specs.Fifo.{fresh}
use Rattle.lsm_pick.proofs.fifo.Fifo.fresh_below.Given as goal

abbrev pub invariant-loop-table : goal.invariant-loop-table
invariant-loop-table l = (l.total ≡ bytes_below l.moment (fresh l.self (take l.table-index l.run))) × (l.total ≤ l.table-index * (2 ^ 64 - 1))
