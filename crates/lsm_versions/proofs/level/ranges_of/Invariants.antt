use Rattle.std.proofs.Common.{take}
use Rattle.lsm_versions.specs.Levels.{AreHulls}
use Rattle.lsm_versions.proofs.level.ranges_of.Given as goal

abbrev pub invariant-loop-run : goal.invariant-loop-run
invariant-loop-run l = AreHulls (take l.run-index l.runs) l.ranges.items
