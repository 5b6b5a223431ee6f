use Rattle.std.proofs.Common.{None, IfOk, subst}
use Rattle.lsm_model.specs.declared.question.Question.TheVariants.{Prefix}
use Rattle.lsm_state.specs.Ranges.{Prefixes}
use Rattle.lsm_runs.specs.ReadSteps.{ToldFound}
use Rattle.lsm_runs.proofs.ReadOutcomes.{prefix_taken}
use Rattle.lsm_runs.proofs.reads.prefix.Goals as goal

pub returns : goal.returns
returns g c =
    let core = c.args.state.now.core in
    let s = c.args.snapshot in
    let r = c.prefix-found.result in
    let found = c.prefix-found.ensures in
    prefix_taken s core c.lists_are_steps.ensures c.args.prefix.now r c.of_found.result
    (subst (λ p. IfOk r (λ iter. Prefixes core None p s iter.left)) c.as_slice.ensures found.ok) found.refuses.too_old found.refuses.only
    (subst (λ p. IfOk c.of_found.result (ToldFound (Prefix p) s r)) c.in_ok-share.ensures c.of_found.ensures)
