use Rattle.std.proofs.Common.{◌≡◌, List, ℕ, Bool, true, false, refl, sym, subst}
use Rattle.std.specs.List.Sorted.{IsPermutation, IsNonDecreasing, IsStrictlyIncreasing}
use Rattle.std.proofs.lemmas.Bool.{false_from_ne_true, both_ways}
use Rattle.std.proofs.lemmas.List.Sorted.{IsNonDecreasingBy-from_sort}
use Rattle.lsm_manifest.specs.Spelling.{distinct}
use Rattle.lsm_manifest.proofs.Once.{sorted_distinct, distinct_sorted}
use Rattle.lsm_manifest.proofs.ids.are_distinct.Goals as goal

by_rise : (ids sorted : List ℕ) (b : Bool) → IsPermutation ids sorted → IsNonDecreasing sorted → (b ≡ true → IsStrictlyIncreasing sorted) → (IsStrictlyIncreasing sorted → b ≡ true) → b ≡ distinct ids
by_rise ids sorted true p up rises back = sym (sorted_distinct ids sorted p (rises refl))
by_rise ids sorted false p up rises back = sym (false_from_ne_true (distinct ids) (λ d. both_ways false refl (back (distinct_sorted ids sorted p up d))))

pub returns : goal.returns
returns c =
    let ids = c.args.ids.items in
    let sorted = c.sort_unstable.new.self.items in
    by_rise ids sorted c.rise.result c.sort_unstable.ensures.permutation (IsNonDecreasingBy-from_sort (λ x. x) sorted c.sort_unstable.ensures.sorted)
    (λ e. subst IsStrictlyIncreasing c.deref.ensures.value (c.rise.ensures.0 e)) (λ up. c.rise.ensures.1 (subst IsStrictlyIncreasing (sym c.deref.ensures.value) up))
