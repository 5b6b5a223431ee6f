use Rattle.std.proofs.Common.{take}
use Rattle.lsm_manifest.specs.Standing.{HasSmallNumbers}
use Rattle.lsm_manifest.proofs.levels.are_small.Given as goal

abbrev pub invariant-loop-level : goal.invariant-loop-level
invariant-loop-level l = HasSmallNumbers (take l.level-index l.levels)
