use Rattle.std.proofs.Common.{◌≡◌, [], refl, sym, subst}
use Rattle.lsm_runs.specs.Slots.{GivesUpAll}
use Rattle.lsm_log_runs.proofs.Closing.{all_waiting, beside_then, given_up_stands}
use Rattle.lsm_log_runs.proofs.runner.jobs.give_up_all.Goals as goal

pub loop-place-preserved : goal.loop-place-preserved
loop-place-preserved g c = record {
  core = λ new rest. c.loop-place.invariant.core new
      (subst (λ es. GivesUpAll es c.loop-place.tree.core new) (sym c.in-Some.ensures.steps) (c.give_up.new.tree.core, c.give_up.ensures.core, rest));
  rest = beside_then _ _ _ c.loop-place.invariant.rest c.give_up.ensures.rest;
}

pub returns-clause-ends : goal.returns-clause-ends
returns-clause-ends g c =
    let mid = c.loop-place.tree in
    let none : c.loop-place.place-iterator ≡ [] = c.in-None.ensures.steps.0 in
    record {
      places = c.args.slots.entries;
      all = all_waiting c.args.slots c.into_iter-place-iterator.ensures.into_iter_gives.5;
      given_up = c.loop-place.invariant.core mid.core (subst (λ es. GivesUpAll es mid.core mid.core) (sym none) refl);
      rest = c.loop-place.invariant.rest;
    }

pub returns-clause-stands : goal.returns-clause-stands
returns-clause-stands g c image past s = given_up_stands g.S.Store.world image past _ _ (returns-clause-ends g c) s
