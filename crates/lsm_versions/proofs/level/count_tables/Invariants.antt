use Rattle.std.proofs.Common.{◌≡◌, length, take}
use Rattle.lsm_below.specs.Optimizes.{tables_of}
use Rattle.lsm_below.specs.Sums.{capped}
use Rattle.lsm_versions.proofs.level.count_tables.Given as goal

abbrev pub invariant-loop-run : goal.invariant-loop-run
invariant-loop-run g l = l.count ≡ capped (length (tables_of (take l.run-index l.runs)))
