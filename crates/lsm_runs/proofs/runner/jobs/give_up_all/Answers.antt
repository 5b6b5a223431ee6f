use Rattle.std.proofs.Common.{◌≡◌, [], refl, sym, ◌∙◌, subst}
use Rattle.lsm_runs.specs.Slots.{GivesUpAll}
use Rattle.lsm_runs.proofs.GivingUp.{given_up_open, given_up_merges}
use Rattle.lsm_runs.proofs.runner.jobs.give_up_all.Goals as goal

pub loop-place-preserved : goal.loop-place-preserved
loop-place-preserved g c = record {
  core = λ new rest. c.loop-place.invariant.core new
      (subst (λ es. GivesUpAll es c.loop-place.state.core new) (sym c.in-Some.ensures.steps) (c.give_up.new.state.core, c.give_up.ensures.core, rest));
  store = c.give_up.ensures.store ∙ c.loop-place.invariant.store;
}

pub returns-clause-core : goal.returns-clause-core
returns-clause-core g c =
    let mid = c.loop-place.state.core in
    let none : c.loop-place.place-iterator ≡ [] = c.in-None.ensures.steps.0 in
    c.loop-place.invariant.core mid (subst (λ es. GivesUpAll es mid mid) (sym none) refl)

pub returns-clause-flush : goal.returns-clause-flush
returns-clause-flush g c start k =
    given_up_open start c.args.slots c.args.state.now.core c.loop-place.state.core c.into_iter-place-iterator.ensures.into_iter_gives.5 (returns-clause-core g c) k

pub returns-clause-merges : goal.returns-clause-merges
returns-clause-merges g c start k =
    given_up_merges start c.args.slots c.args.state.now.core c.loop-place.state.core c.into_iter-place-iterator.ensures.into_iter_gives.5 (returns-clause-core g c) k
