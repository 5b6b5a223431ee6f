use Rattle.lsm_log_runs.proofs.Causing.{begin_cause, run_cause, abandon_cause, run_compaction_cause, given_cause}
use Rattle.lsm_log_runs.proofs.runner.jobs.take_job.Goals as goal

pub returns-in-BeginFlush-clause-causes : goal.returns-in-BeginFlush-clause-causes
returns-in-BeginFlush-clause-causes g c = begin_cause g.S.Store.world c.begin_flush.result c.args.place.now c.begin_flush.new.place c.args.tree.now c.begin_flush.new.tree c.begin_flush.ensures.takes

pub returns-in-RunFlush-clause-causes : goal.returns-in-RunFlush-clause-causes
returns-in-RunFlush-clause-causes g c = run_cause g.S.Store.world c.args.tree.now.store _ c.run_flush.result _ c.args.place.now c.run_flush.new.place _ _ c.run_flush.ensures

pub returns-in-AbandonFlush-clause-causes : goal.returns-in-AbandonFlush-clause-causes
returns-in-AbandonFlush-clause-causes g c = abandon_cause g.S.Store.world c.abandon_flush.result c.args.place.now c.abandon_flush.new.place c.args.tree.now c.abandon_flush.new.tree c.abandon_flush.ensures.takes

pub returns-in-RunCompaction-clause-causes : goal.returns-in-RunCompaction-clause-causes
returns-in-RunCompaction-clause-causes g c = run_compaction_cause g.S.Store.world c.args.tree.now.store c.run_compaction.result _ c.args.place.now c.run_compaction.new.place _ _ c.run_compaction.ensures

pub returns-in-AbandonCompaction-clause-causes : goal.returns-in-AbandonCompaction-clause-causes
returns-in-AbandonCompaction-clause-causes g c = given_cause g.S.Store.world c.abandon_compaction.result c.args.place.now c.abandon_compaction.new.place c.args.tree.now c.abandon_compaction.new.tree c.abandon_compaction.ensures.takes
