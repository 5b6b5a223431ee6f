use Rattle.std.proofs.Common.{length}
use Rattle.lsm_below.specs.Runs.{IsRun}
use Rattle.lsm_below.proofs.run.is_run.Given as goal

abbrev pub invariant-loop-rest : goal.invariant-loop-rest
invariant-loop-rest g l = record {
  whole : IsRun g.T.Ranged.range l.rest → IsRun g.T.Ranged.range l.fn.tables;
  part : IsRun g.T.Ranged.range l.fn.tables → IsRun g.T.Ranged.range l.rest;
}

abbrev pub decreases-loop-rest : goal.decreases-loop-rest
decreases-loop-rest g l = length l.rest
