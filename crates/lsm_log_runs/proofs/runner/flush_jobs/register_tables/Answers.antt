use Rattle.std.proofs.Common.{rules}
use Rattle.lsm_log_runs.proofs.runner.flush_jobs.register_tables.Goals as goal

pub returns-in-Ok-clause-acts : goal.returns-in-Ok-clause-acts
returns-in-Ok-clause-acts g c tells = (c.in-Some-Written.job, search rules, rw c.into_job-job.ensures at (c.in-Ok.ensures.acts tells))

pub returns-in-Err-clause-acts : goal.returns-in-Err-clause-acts
returns-in-Err-clause-acts g c tells = (c.in-Some-Written.job, search rules, rw c.into_job-job.ensures at (c.in-Err.ensures.acts tells))
