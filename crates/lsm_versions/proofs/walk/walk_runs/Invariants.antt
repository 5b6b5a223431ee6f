use Rattle.std.proofs.Common.{◌≡◌, length}
use Rattle.lsm_below.specs.Optimizes.{tables_of}
use Rattle.lsm_model.specs.Views.{walk}
use Rattle.lsm_versions.specs.Levels.{AreCovered}
use Rattle.lsm_versions.proofs.Walks.{entries_of}
use Rattle.lsm_versions.proofs.walk.walk_runs.Given as goal

abbrev pub invariant-loop-run : goal.invariant-loop-run
invariant-loop-run l =
    (walk l.key l.snapshot (entries_of (tables_of l.runs)) ≡ walk l.key l.snapshot (entries_of (tables_of l.rest))) × AreCovered (tables_of l.rest)

abbrev pub decreases-loop-run : goal.decreases-loop-run
decreases-loop-run l = length l.rest
