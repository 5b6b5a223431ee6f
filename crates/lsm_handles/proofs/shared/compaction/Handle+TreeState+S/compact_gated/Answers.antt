-- The job that the gate answers is the one that the beginning handed out.
use Rattle.std.proofs.Common.{Ok, ◌∙◌, ap, sym, subst}
use Rattle.lsm_state.specs.WholeCompactions.{as_begun}
use Rattle.lsm_handles.specs.Gates.{EndsGated, FollowsGated}
use Rattle.lsm_handles.proofs.Gates.{of_the_job}
use Rattle.lsm_handles.proofs.shared.compaction.Handle+TreeState+S.compact_gated.Goals as goal

pub returns-in-Ok-Job : goal.returns-in-Ok-Job
returns-in-Ok-Job g c =
    let told = as_begun c.end_gated.result in
    let ends = of_the_job c.in-Ok-Job.job (λ j. EndsGated g.S.Store.tells g.S.Store.world j told) c.pass.result c.pass.ensures.job c.pass.ensures.back c.end_gated.ensures.done c.end_gated.ensures.back in
    record {
      begun = c.begin_at-begun.result;
      begins = c.begin_at-begun.ensures;
      follows = subst (λ b. FollowsGated g.S.Store.tells g.S.Store.world b told) (sym (c.in-Ok-Job.is ∙ ap Ok c.in-Ok-Job.field-0-is)) ends;
    }
