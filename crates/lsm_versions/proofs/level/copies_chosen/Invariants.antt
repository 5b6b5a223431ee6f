use Rattle.std.proofs.Common.{◌≡◌, take}
use Rattle.lsm_versions.specs.Levels.{chosen_in}
use Rattle.lsm_versions.proofs.level.copies_chosen.Given as goal

abbrev pub invariant-loop-table : goal.invariant-loop-table
invariant-loop-table l = l.copies.items ≡ chosen_in l.ids.keys (take l.table-index l.tables)
