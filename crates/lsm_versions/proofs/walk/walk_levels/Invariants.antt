use Rattle.std.proofs.Common.{◌≡◌, length}
use Rattle.lsm_model.specs.Views.{walk}
use Rattle.lsm_versions.specs.Levels.{all_of, AreCovered}
use Rattle.lsm_versions.proofs.Walks.{entries_of}
use Rattle.lsm_versions.proofs.walk.walk_levels.Given as goal

abbrev pub invariant-loop-level : goal.invariant-loop-level
invariant-loop-level l =
    (walk l.key l.snapshot (entries_of (all_of l.levels)) ≡ walk l.key l.snapshot (entries_of (all_of l.rest))) × AreCovered (all_of l.rest)

abbrev pub decreases-loop-level : goal.decreases-loop-level
decreases-loop-level l = length l.rest
