use Rattle.std.proofs.Common.{◌≡◌, ◌++◌, length}
use Rattle.lsm_below.specs.Optimizes.{tables_of}
use Rattle.lsm_versions.specs.Levels.{all_of}
use Rattle.lsm_versions.proofs.tables.front_run.Given as goal

abbrev pub invariant-loop-run : goal.invariant-loop-run
invariant-loop-run l = tables_of l.fn.runs ++ all_of l.fn.levels ≡ tables_of l.runs ++ all_of l.levels

abbrev pub decreases-loop-run : goal.decreases-loop-run
decreases-loop-run l = length l.levels
