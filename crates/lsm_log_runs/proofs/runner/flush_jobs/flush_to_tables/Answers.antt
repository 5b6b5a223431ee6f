use Rattle.std.proofs.Common.{inr}
use Rattle.lsm_log_runs.proofs.runner.flush_jobs.flush_to_tables.Goals as goal

pub returns-in-Ok-clause-acts : goal.returns-in-Ok-clause-acts
returns-in-Ok-clause-acts g c tells = inr (c.flush_to_tables.ensures.acts tells)

pub returns-in-Err-clause-acts : goal.returns-in-Err-clause-acts
returns-in-Err-clause-acts g c tells = inr (c.flush_to_tables.ensures.acts tells)
