use Rattle.std.proofs.Common.{inr}
use Rattle.lsm_log_runs.proofs.Closing.{spent_stored}
use Rattle.lsm_log_runs.proofs.runner.flush_jobs.abandon_flush.Goals as goal

pub returns-clause-acts : goal.returns-clause-acts
returns-clause-acts g c tells = inr (c.abandon_flush.ensures.acts tells)

pub returns-clause-stored : goal.returns-clause-stored
returns-clause-stored g c tells = spent_stored g.S.Store.world c.args.tree.now c.abandon_flush.new.self _ c.abandon_flush.ensures.core c.abandon_flush.ensures.store
