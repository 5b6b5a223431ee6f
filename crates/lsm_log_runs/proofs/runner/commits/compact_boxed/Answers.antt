use Rattle.std.proofs.Common.{subst}
use Rattle.lsm_state.specs.Dropping.{MayDropIds}
use Rattle.lsm_state.specs.WholeCompactions.{as_begun}
use Rattle.lsm_logged.specs.Acting.{CompactsAct}
use Rattle.lsm_log_runs.proofs.runner.commits.compact_boxed.Goals as goal

pub returns-clause-acts : goal.returns-clause-acts
returns-clause-acts g c told =
    let world = g.S.Store.world in
    let old = c.args.tree.now in
    let new = c.compact.new.self in
    subst (λ b. CompactsAct (MayDropIds ((goal.CompactionStrategy-dyn g b).may_choose b.1) old.core) c.args.watermark (as_begun c.compact.result) (world old.store) (world new.store) old new) c.deref_box-1.ensures.1 (c.compact.ensures.acts told)
