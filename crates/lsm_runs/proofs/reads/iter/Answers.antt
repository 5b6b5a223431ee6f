use Rattle.std.proofs.Common.{IfOk, subst}
use Rattle.std.specs.declared.ops.Bound.TheVariants.{Unbounded}
use Rattle.lsm_runs.specs.ReadSteps.{ToldFound}
use Rattle.lsm_runs.proofs.ReadOutcomes.{range_taken}
use Rattle.lsm_runs.proofs.reads.iter.Goals as goal

pub returns : goal.returns
returns g c =
    let s = c.args.snapshot in
    let found = c.iter.ensures in
    range_taken s c.args.state.now.core c.lists_are_steps.ensures Unbounded Unbounded c.iter.result c.of_found.result found.ok found.refuses.too_old found.refuses.only
    (subst (λ asked. IfOk c.of_found.result (ToldFound asked s c.iter.result)) c.in_ok-all.ensures c.of_found.ensures)
