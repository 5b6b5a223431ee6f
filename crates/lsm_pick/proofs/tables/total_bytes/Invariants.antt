use Rattle.std.proofs.Common.{◌≡◌, ◌≤◌, ◌*◌, ◌-◌, ◌^◌, take}
use Rattle.lsm_versions.specs.Levels.{bytes_of}
use Rattle.lsm_pick.proofs.tables.total_bytes.Given as goal

abbrev pub invariant-loop-table : goal.invariant-loop-table
invariant-loop-table l = (l.total ≡ bytes_of (take l.table-index l.tables)) × (l.total ≤ l.table-index * (2 ^ 64 - 1))
