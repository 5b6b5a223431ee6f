use Rattle.std.proofs.Common.{inr}
use Rattle.lsm_log_runs.proofs.runner.merge_jobs.abandon_compaction.Goals as goal

pub returns-clause-acts : goal.returns-clause-acts
returns-clause-acts g c tells = inr (c.abandon_compaction.ensures.acts tells)
