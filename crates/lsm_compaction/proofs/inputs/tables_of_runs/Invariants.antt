use Rattle.std.proofs.Common.{◌≡◌, ◌++◌}
use Rattle.lsm_below.specs.Optimizes.{tables_of}
use Rattle.lsm_compaction.proofs.inputs.tables_of_runs.Given as goal

-- what is there, and what is left
abbrev pub invariant-loop-table : goal.invariant-loop-table
invariant-loop-table l = l.copies.items ++ l.table-iterator ≡ tables_of l.runs
