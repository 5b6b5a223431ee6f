use Rattle.std.proofs.Common.{inr}
use Rattle.lsm_log_runs.proofs.Closing.{begun_stored}
use Rattle.lsm_log_runs.proofs.runner.flush_jobs.begin_flush.Goals as goal

pub returns-in-Ok-Some-clause-acts : goal.returns-in-Ok-Some-clause-acts
returns-in-Ok-Some-clause-acts g c tells = inr (c.begin_flush.ensures.acts tells)

pub returns-in-Ok-Some-clause-stored : goal.returns-in-Ok-Some-clause-stored
returns-in-Ok-Some-clause-stored g c tells = begun_stored g.S.Store.world c.args.tree.now c.begin_flush.new.self c.begin_flush.result c.begin_flush.ensures.begins

pub returns-in-Ok-None-clause-acts : goal.returns-in-Ok-None-clause-acts
returns-in-Ok-None-clause-acts g c tells = inr (c.begin_flush.ensures.acts tells)

pub returns-in-Ok-None-clause-stored : goal.returns-in-Ok-None-clause-stored
returns-in-Ok-None-clause-stored g c tells = begun_stored g.S.Store.world c.args.tree.now c.begin_flush.new.self c.begin_flush.result c.begin_flush.ensures.begins

pub returns-in-Err-clause-acts : goal.returns-in-Err-clause-acts
returns-in-Err-clause-acts g c tells = inr (c.begin_flush.ensures.acts tells)
