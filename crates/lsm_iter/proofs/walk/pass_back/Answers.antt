use Rattle.std.proofs.Common.{◌-◌, ◌∷◌, ◌++◌, [], length, take, sym, ap, ◌∙◌, subst}
use Rattle.lsm_below.specs.Entries.{entry_cmp}
use Rattle.lsm_below.specs.Sorted.{Rises}
use Rattle.lsm_iter.specs.Reads.{at}
use Rattle.lsm_iter.specs.Left.{tops}
use Rattle.lsm_iter.proofs.Rises.{rises_left}
use Rattle.lsm_iter.proofs.Walks.{dropped_more, seen_back, back_step, back_end}
use Rattle.lsm_iter.proofs.walk.pass_back.Goals as goal

pub returns-then-not-is_hidden-clause-trims : goal.returns-then-not-is_hidden-clause-trims
returns-then-not-is_hidden-clause-trims c =
    let gone = c.loop-last.invariant.passed in
    let x = c.in-Some.last in
    let front = c.drop_last.new.self in
    let next = c.in-Some.ensures ∙ ap (λ l. l ++ x ∷ []) (sym (c.drop_last.ensures ∙ ap (λ l. take (length l - 1) l) c.copy-front.ensures)) in
    record {
      same = c.loop-last.invariant.same;
      ends =
          back_end c.args.below c.loop-last.rest front (take (length front - 1) front) x c.last_headed-in-loop-last.result next
          (rises_left entry_cmp c.loop-last.rest gone.0 (subst (Rises entry_cmp) gone.1 c.requires))
          (seen_back front c.last_headed-in-loop-last.result c.last_headed-in-loop-last.ensures) (sym c.is_hidden.ensures ∙ c.if-not-is_hidden.true);
    }

pub loop-last-preserved : goal.loop-last-preserved
loop-last-preserved c =
    let gone = c.loop-last.invariant.passed in
    let x = c.in-Some.last in
    let front = c.drop_last.new.self in
    let new = c.drop_last-in-loop-last.new.self in
    let cut = c.drop_last.ensures ∙ ap (λ l. take (length l - 1) l) c.copy-front.ensures in
    let next = c.in-Some.ensures ∙ ap (λ l. l ++ x ∷ []) (sym cut) in
    let now = c.in-Some.ensures ∙ ap (λ l. l ++ x ∷ []) (sym c.drop_last-in-loop-last.ensures) in
    record {
      same =
          ap (λ l. tops (at c.args.below l)) (c.drop_last-in-loop-last.ensures ∙ sym cut)
          ∙ back_step c.args.below c.loop-last.rest front (take (length front - 1) front) x c.last_headed-in-loop-last.result next
          (seen_back front c.last_headed-in-loop-last.result c.last_headed-in-loop-last.ensures) (sym c.is_hidden.ensures ∙ c.if-not-is_hidden.false)
          ∙ c.loop-last.invariant.same;
      passed = (x ∷ gone.0, dropped_more c.args.rest.now c.loop-last.rest new gone.0 x gone.1 now);
    }
