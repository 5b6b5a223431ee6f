use Rattle.std.proofs.Common.{None, IfOk, subst}
use Rattle.lsm_state.specs.Ranges.{Ranges}
use Rattle.lsm_runs.specs.ReadSteps.{ToldFound}
use Rattle.lsm_runs.proofs.ReadOutcomes.{range_taken}
use Rattle.lsm_runs.proofs.reads.range.Goals as goal

pub returns : goal.returns
returns g c =
    let core = c.args.state.now.core in
    let s = c.args.snapshot in
    let r = c.range-found.result in
    let found = c.range-found.ensures in
    let first = subst (λ low. IfOk r (λ iter. Ranges core None low c.in_ok-copy_bound-2.field-0 s iter.left)) c.in_ok-copy_bound.ensures found.ok in
    let both = subst (λ high. IfOk r (λ iter. Ranges core None c.args.low.now high s iter.left)) c.in_ok-copy_bound-2.ensures first in
    range_taken s core c.lists_are_steps.ensures c.args.low.now c.args.high.now r c.of_found.result both found.refuses.too_old found.refuses.only
    (subst (λ asked. IfOk c.of_found.result (ToldFound asked s r)) c.in_ok-question.ensures c.of_found.ensures)
