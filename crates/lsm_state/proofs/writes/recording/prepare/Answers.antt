use Rattle.lsm_state.proofs.Fitting.{batch_fits}
use Rattle.lsm_state.proofs.writes.recording.prepare.Goals as goal

pub encode-requires-clause-each : goal.encode-requires-clause-each
encode-requires-clause-each c = batch_fits c.args.number c.args.ops.now c.in_ok-check_batch.ensures.ok
