use Rattle.std.proofs.Common.{◌∷◌, sym, ap, ◌∙◌}
use Rattle.lsm_iter.proofs.Walks.{past_first}
use Rattle.lsm_iter.proofs.walk.Walk.skip_front.Goals as goal

pub invariant_of-self : goal.invariant_of-self
invariant_of-self c =
    let next = c.in-Some.ensures ∙ ap (λ l. c.in-Some.first ∷ l) (sym c.drop_first.ensures) in
    (past_first c.self.inside.below c.self.inside.rest c.drop_first.new.self c.settle_front.ensures.passed.0 c.settle_front.new.rest c.in-Some.first next c.settle_front.ensures.passed.1 c.self.invariant c.settle_front.ensures.same c.settle_front.ensures.ends).1

pub returns : goal.returns
returns c =
    let next = c.in-Some.ensures ∙ ap (λ l. c.in-Some.first ∷ l) (sym c.drop_first.ensures) in
    rw (← c.self.view_is)
    (past_first c.self.inside.below c.self.inside.rest c.drop_first.new.self c.settle_front.ensures.passed.0 c.settle_front.new.rest c.in-Some.first next c.settle_front.ensures.passed.1 c.self.invariant c.settle_front.ensures.same c.settle_front.ensures.ends).0
