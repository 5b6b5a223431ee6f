use Rattle.lsm_runs.proofs.runner.compaction.compact.Goals as goal

pub returns-clause-ok : goal.returns-clause-ok
returns-clause-ok g c = rw (← c.options_at-options.ensures) c.do_compaction.ensures.ok
