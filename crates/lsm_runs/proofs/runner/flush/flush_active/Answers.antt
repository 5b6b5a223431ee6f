use Rattle.lsm_runs.proofs.Causing.{active_cause}
use Rattle.lsm_runs.proofs.FlushOutcomes.{active_taken}
use Rattle.lsm_runs.proofs.runner.flush.flush_active.Goals as goal

pub returns-clause-ok : goal.returns-clause-ok
returns-clause-ok g c =
    let flushed = c.flush_active_noting-entries in
    rw c.of_active.ensures (active_taken c.args.watermark flushed.result.0 flushed.result.1.items c.args.state.now.core flushed.new.tree.core flushed.ensures.flushes)

pub returns-clause-files : goal.returns-clause-files
returns-clause-files g c =
    let flushed = c.flush_active_noting-entries in
    record {
      upholds = flushed.ensures.upholds;
      causes = rw c.of_active.ensures (active_cause flushed.result.1.items flushed.result.0 _ _ flushed.ensures.files.causes);
      no_call = flushed.ensures.files.no_call;
    }
