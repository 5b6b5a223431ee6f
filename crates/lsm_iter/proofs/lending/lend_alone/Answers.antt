use Rattle.std.proofs.Common.{◌≡◌, ◌<◌, List, [], ◌∷◌, None, Some, cond, filter, get_or, set, length, option_copied, option_to_list, refl, sym, ap, ◌∙◌, subst, arith}
use Rattle.std.proofs.lemmas.List.{get_or_read, length-set}
use Rattle.lsm_below.specs.Entries.{Entry, is_value}
use Rattle.lsm_iter.specs.Left.{SeenCursor, left_of, shown_list, end_item}
use Rattle.lsm_iter.specs.Outermost.{IsAlone, IsOutermost}
use Rattle.lsm_iter.specs.declared.tree_iter.End.TheVariants.{Front}
use Rattle.lsm_iter.proofs.Shows.{end_kept}
use Rattle.lsm_iter.proofs.Alone.{first_more}
use Rattle.lsm_iter.proofs.Steps.{step, takes_value}
use Rattle.lsm_iter.proofs.lending.lend_alone.Goals as goal

-- the only one has the outermost key
alone : (cs : List SeenCursor) (cursor : SeenCursor) (e : Entry) → length cs ≡ 1 → cursor ≡ get_or cs 0 cursor → end_item Front (get_or cs 0 cursor).left ≡ Some e → IsAlone Front cs (length cs) 0
alone cs cursor e one is item =
    let lt : 0 < length cs = omega (arith, one) in
    let nothing_yet : IsOutermost Front cs 0 None = λ j d lt. absurd (omega (arith, lt)) in
    subst (λ n. IsAlone Front cs n 0) (sym one) (first_more Front cs 0 e (λ d. ap (λ x. end_item Front x.left) (sym (get_or_read cs 0 cursor lt is d) ∙ get_or_read cs 0 cursor lt is cursor) ∙ item) nothing_yet)

pub returns-then-is_a_value : goal.returns-then-is_a_value
returns-then-is_a_value c =
    let cs = c.loop-entry.lenders in
    let cursor = c.index-lenders-0.result in
    let e = c.in-Some.entry.now in
    let new = c.take_front.new.self in
    let item = sym c.take_front.ensures.is ∙ ap option_copied c.in-Some.is in
    let value = sym (ap (λ o. filter is_value (option_to_list o)) item ∙ ap (λ b. cond b (e ∷ []) []) (sym c.is_a_value.ensures ∙ c.if-is_a_value.true)) in
    let takes = takes_value Front (get_or cs 0 cursor).left new.left (Some e) c.take_front.ensures.takes value in
    c.loop-entry.invariant.shown ∙ step Front cs 0 (alone cs cursor e c.loop-entry.invariant.one c.index-lenders-0.is item) new (Some e) cursor takes c.take_front.ensures.rises c.take_front.ensures.held

pub loop-entry-preserved : goal.loop-entry-preserved
loop-entry-preserved c =
    let cs = c.loop-entry.lenders in
    let cursor = c.index-lenders-0.result in
    let e = c.in-Some.entry.now in
    let new = c.take_front.new.self in
    let item = sym c.take_front.ensures.is ∙ ap option_copied c.in-Some.is in
    let value = sym (ap (λ o. filter is_value (option_to_list o)) item ∙ ap (λ b. cond b (e ∷ []) []) (sym c.is_a_value.ensures ∙ c.if-is_a_value.false)) in
    let takes = takes_value Front (get_or cs 0 cursor).left new.left None c.take_front.ensures.takes value in
    record {
      shown = c.loop-entry.invariant.shown ∙ end_kept Front (shown_list (left_of cs)) [] (shown_list (left_of (set cs 0 new))) (step Front cs 0 (alone cs cursor e c.loop-entry.invariant.one c.index-lenders-0.is item) new None cursor takes c.take_front.ensures.rises c.take_front.ensures.held) refl;
      one = length-set cs 0 new ∙ c.loop-entry.invariant.one;
    }
