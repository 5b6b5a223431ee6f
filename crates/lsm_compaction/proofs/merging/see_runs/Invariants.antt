use Rattle.std.proofs.Common.{take}
use Rattle.std.specs.List.{AllByRecursion}
use Rattle.lsm_compaction.specs.Merges.{IsSoundRun}
use Rattle.lsm_compaction.proofs.merging.see_runs.Given as goal

abbrev pub invariant-loop-run : goal.invariant-loop-run
invariant-loop-run l = AllByRecursion IsSoundRun (take l.run-index l.runs)
