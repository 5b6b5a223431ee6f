use Rattle.std.proofs.Common.{subst}
use Rattle.lsm_state.specs.Dropping.{MayDropIds}
use Rattle.lsm_logged.specs.Acting.{CompactsAct}
use Rattle.lsm_log_runs.proofs.runner.merge_jobs.begin_boxed.Goals as goal

pub returns-clause-acts : goal.returns-clause-acts
returns-clause-acts g c told =
    let world = g.S.Store.world in
    let old = c.args.tree.now in
    let new = c.begin_compaction.new.self in
    subst (λ b. CompactsAct (MayDropIds ((goal.CompactionStrategy-dyn g b).may_choose b.1) old.core) c.args.options.mvcc_gc_watermark c.begin_compaction.result (world old.store) (world new.store) old new) c.deref_box-1.ensures.1 (c.begin_compaction.ensures.acts told)
