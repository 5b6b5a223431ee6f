use Rattle.lsm_log_runs.proofs.runner.run_from.Goals as goal

pub returns-clause-runs : goal.returns-clause-runs
returns-clause-runs g c = (c.steps_lead.ensures.lead _ _ _ _ c.take_steps.ensures.ran).0
