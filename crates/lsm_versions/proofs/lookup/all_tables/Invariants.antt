use Rattle.std.proofs.Common.{◌≡◌, ◌++◌}
use Rattle.lsm_versions.specs.Levels.{all_of}
use Rattle.lsm_versions.proofs.lookup.all_tables.Given as goal

-- what is there, and what is left
abbrev pub invariant-loop-table : goal.invariant-loop-table
invariant-loop-table l = l.all.items ++ l.table-iterator ≡ all_of l.levels
