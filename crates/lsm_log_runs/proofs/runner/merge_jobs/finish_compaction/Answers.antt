use Rattle.std.proofs.Common.{rules}
use Rattle.lsm_log_runs.proofs.Causing.{finished_cause}
use Rattle.lsm_log_runs.proofs.Compacting.{merge_acts}
use Rattle.lsm_log_runs.proofs.runner.merge_jobs.finish_compaction.Goals as goal

pub returns-clause-acts : goal.returns-clause-acts
returns-clause-acts g c tells =
    let world = g.S.Store.world in
    let old = c.args.tree.now in
    let new = c.finish_compaction.new.self in
    merge_acts old new c.of_finished.result c.finish_compaction.result c.of_finished.ensures c.args.place.now (world old.store) (world new.store) c.in-Some-Compacted.merged (search rules) (rw c.into_job-merged.ensures at (c.finish_compaction.ensures.acts tells))

pub returns-clause-causes : goal.returns-clause-causes
returns-clause-causes g c = finished_cause c.finish_compaction.result c.of_finished.result _ _ c.of_finished.ensures c.finish_compaction.ensures.files.causes
