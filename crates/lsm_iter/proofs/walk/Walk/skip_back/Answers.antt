use Rattle.std.proofs.Common.{◌∷◌, ◌++◌, [], sym, ap, ◌∙◌, subst}
use Rattle.lsm_below.specs.Entries.{entry_cmp}
use Rattle.lsm_below.specs.Sorted.{Rises}
use Rattle.lsm_iter.proofs.Rises.{rises_left}
use Rattle.lsm_iter.proofs.Walks.{past_last}
use Rattle.lsm_iter.proofs.walk.Walk.skip_back.Goals as goal

pub pass_back-requires : goal.pass_back-requires
pass_back-requires c =
    let next = c.in-Some.ensures ∙ ap (λ l. l ++ c.in-Some._last ∷ []) (sym c.drop_last.ensures) in
    rises_left entry_cmp c.drop_last.new.self (c.in-Some._last ∷ []) (subst (Rises entry_cmp) next c.self.invariant.rises)

pub invariant_of-self : goal.invariant_of-self
invariant_of-self c =
    let next = c.in-Some.ensures ∙ ap (λ l. l ++ c.in-Some._last ∷ []) (sym c.drop_last.ensures) in
    (past_last c.self.inside.below c.self.inside.rest c.drop_last.new.self c.pass_back.new.rest c.pass_back.ensures.passed.0 c.in-Some._last next c.pass_back.ensures.passed.1 c.self.invariant c.pass_back.ensures.trims).1

pub returns : goal.returns
returns c =
    let next = c.in-Some.ensures ∙ ap (λ l. l ++ c.in-Some._last ∷ []) (sym c.drop_last.ensures) in
    rw (← c.self.view_is)
    (past_last c.self.inside.below c.self.inside.rest c.drop_last.new.self c.pass_back.new.rest c.pass_back.ensures.passed.0 c.in-Some._last next c.pass_back.ensures.passed.1 c.self.invariant c.pass_back.ensures.trims).0
