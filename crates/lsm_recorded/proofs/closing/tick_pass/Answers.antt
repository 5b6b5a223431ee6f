use Rattle.std.proofs.Common.{◌≡◌, ◌<◌, ◌≤◌, ◌+◌, Some, slice_get, get_or, take, refl, sym, ap, ◌∙◌, subst, arith}
use Rattle.std.proofs.lemmas.List.{take_all}
use Rattle.std.proofs.lemmas.List.Elements.{All-more}
use Rattle.lsm_recorded.specs.Ticks.{Finds}
use Rattle.lsm_recorded.specs.Closing.{IsPassOf}
use Rattle.lsm_recorded.proofs.ClosingLemmas.{rising_more, finds_more}
use Rattle.lsm_recorded.proofs.closing.tick_pass.Goals as goal

pub loop-place-preserved : goal.loop-place-preserved
loop-place-preserved c =
    let i = c.loop-place.place-index in
    let xs = c.args.pass.now in
    let d = c.loop-place-item.result in
    let is = c.loop-place-item.is in
    let h = c.loop-place-test.true in
    let so = c.loop-place.invariant in
    let told = c.if-not-tick.ensures in
    let here = told.there refl in
    let new = told.ticked refl in
    let next : c.loop-place.next ≤ d.0 = c.if-place-next.false in
    record {
      as-long = c.tick.auto.ticked ∙ so.as-long;
      there = All-more (λ x. slice_get c.args.journal.now x.0 ≡ Some x.1) xs i d h so.there (subst (λ e. slice_get c.args.journal.now e.0 ≡ Some e.1) is here);
      below = All-more (λ x. x.0 < d.0 + 1) xs i d h (λ k e l. let b : (get_or (take i xs) k e).0 < c.loop-place.next = so.below k e l in omega arith) (subst (λ e. e.0 < d.0 + 1) is (omega arith));
      rising = rising_more xs i c.loop-place.next d h so.below (subst (λ e. c.loop-place.next ≤ e.0) is next) so.rising;
      ticked = subst (λ t. Finds (take (i + 1) xs) c.args.ticked.now t) (sym new) (finds_more xs i d.0 d c.args.ticked.now c.loop-place.ticked h (sym (ap (λ e. e.0) is)) c.loop-place.auto.ticked (told.new refl) so.ticked);
    }

pub returns-clause-pass : goal.returns-clause-pass
returns-clause-pass c h =
    let so = c.loop-place.invariant in
    let all = take_all c.loop-place.place-index c.args.pass.now c.loop-place-test.false in
    subst (IsPassOf c.args.journal.now) all (record { there = so.there; rising = so.rising })
