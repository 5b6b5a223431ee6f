use Rattle.std.proofs.Common.{rules}
use Rattle.lsm_runs.proofs.Causing.{registered_cause}
use Rattle.lsm_runs.proofs.FlushOutcomes.{registered_taken}
use Rattle.lsm_runs.proofs.runner.flush.register_tables.Goals as goal

pub returns-in-Ok-clause-ok : goal.returns-in-Ok-clause-ok
returns-in-Ok-clause-ok g c =
    let registered = c.register_noting-entries in
    rw c.of_registered.ensures
    (registered_taken c.in-Some-Written.job registered.result.0 registered.result.1.items c.args.place.now c.take.new.self c.args.state.now.core registered.new.tree.core (search rules) (search rules) (rw c.into_job-job.ensures at registered.ensures.registers))

pub returns-in-Ok-clause-files : goal.returns-in-Ok-clause-files
returns-in-Ok-clause-files g c =
    let registered = c.register_noting-entries in
    record {
      upholds = registered.ensures.upholds;
      causes = rw c.of_registered.ensures (registered_cause registered.result.1.items registered.result.0 _ _ registered.ensures.files.causes);
      no_call = registered.ensures.files.no_call;
    }
