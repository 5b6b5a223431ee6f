use Rattle.std.proofs.Common.{◌<◌, length, take}
use Rattle.std.specs.List.{All}
use Rattle.lsm_below.specs.Runs.{IsRun}
use Rattle.lsm_below.proofs.optimize.facts_of_each.Given as goal

abbrev pub invariant-loop-run : goal.invariant-loop-run
invariant-loop-run g l = All (λ r. IsRun g.T.Ranged.range r × (0 < length r)) (take l.run-index l.runs)
