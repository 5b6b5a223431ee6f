-- The order of keys, and ranges by what is before what.
use Rattle.std.proofs.Math.Bool.{and_comm}
use Rattle.std.proofs.lemmas.Bool.{both_ways, not-true, not_from_false, true_from_ne_false}
use Rattle.std.proofs.Common.{◌≡◌, ℕ, Bool, true, false, List, [], ◌∷◌, refl, sym, ap, ◌∙◌, not, ◌&&◌}
use Rattle.std.specs.List.{filter}
use Rattle.std.specs.Cmp.Lexicographic.{slice_cmp}
use Rattle.std.specs.Ordering.{nat_cmp, is_le, is_lt, is_gt, ordering_reverse}
use Rattle.std.specs.declared.cmp.Ordering.{Ordering}
use Rattle.std.specs.declared.cmp.Ordering.TheVariants.{Less, Equal, Greater}
use Rattle.std.proofs.lemmas.Cmp.{nat_list_cmp_total, upto, tied_itself}
use Rattle.lsm_below.specs.Keys.{is_below}
use Rattle.lsm_below.specs.Ranges.{Range, IsRange, in_range, overlap, is_within}

turned : (o : Ordering) → is_lt (ordering_reverse o) ≡ is_gt o
turned Less = refl
turned Equal = refl
turned Greater = refl

one_way : (o : Ordering) → is_lt o ≡ true → is_gt o ≡ false
one_way Less h = refl
one_way Equal h = absurd (cc h)
one_way Greater h = absurd (cc h)

pub back : (a b : List ℕ) → is_lt (slice_cmp nat_cmp b a) ≡ is_gt (slice_cmp nat_cmp a b)
back a b = ap is_lt (nat_list_cmp_total.antisymm b a) ∙ turned (slice_cmp nat_cmp a b)

-- a ≤ b ≤ c
pub upto_trans : (a b c : List ℕ) → is_below b a ≡ false → is_below c b ≡ false → is_below c a ≡ false
unfolding is_below
upto_trans a b c p q = back a c ∙ upto nat_list_cmp_total a b c (sym (back a b) ∙ p) (sym (back b c) ∙ q)

pub below_upto : (a b : List ℕ) → is_below a b ≡ true → is_below b a ≡ false
unfolding is_below
below_upto a b h = back a b ∙ one_way (slice_cmp nat_cmp a b) h

pub below_itself : (a : List ℕ) → is_below a a ≡ false
unfolding is_below
below_itself a = ap is_lt (tied_itself nat_list_cmp_total a)

-- a < b ≤ c
pub below_then_upto : (a b c : List ℕ) → is_below a b ≡ true → is_below c b ≡ false → is_below a c ≡ true
below_then_upto a b c p q = true_from_ne_false (is_below a c) (λ n. both_ways (is_below a b) (upto_trans b c a q n) p)

-- a ≤ b < c
pub upto_then_below : (a b c : List ℕ) → is_below b a ≡ false → is_below b c ≡ true → is_below a c ≡ true
upto_then_below a b c p q = true_from_ne_false (is_below a c) (λ n. both_ways (is_below b c) (upto_trans c a b n p) q)

pub below_trans : (a b c : List ℕ) → is_below a b ≡ true → is_below b c ≡ true → is_below a c ≡ true
below_trans a b c p q = below_then_upto a b c p (below_upto b c q)

-- ---- ranges

turned_le : (o : Ordering) → is_le o ≡ not (is_lt (ordering_reverse o))
turned_le Less = refl
turned_le Equal = refl
turned_le Greater = refl

-- at most the other: the other isn't below it
pub le_not : (a b : List ℕ) → is_le (slice_cmp nat_cmp a b) ≡ not (is_below b a)
unfolding is_below
le_not a b = turned_le (slice_cmp nat_cmp a b) ∙ ap (λ o. not (is_lt o)) (sym (nat_list_cmp_total.antisymm b a))

pub range_ends : (r : Range) → IsRange r → is_below r.max r.min ≡ false
range_ends r v = not-true (is_below r.max r.min) (sym (le_not r.min r.max) ∙ v)

pub ends_range : (r : Range) → is_below r.max r.min ≡ false → IsRange r
ends_range r h = le_not r.min r.max ∙ not_from_false (is_below r.max r.min) h

pub in_by : (k : List ℕ) (r : Range) → in_range k r ≡ (not (is_below k r.min) && not (is_below r.max k))
in_by k r = rw (le_not r.min k, le_not k r.max) refl

pub overlap_by : (a b : Range) → overlap a b ≡ (not (is_below a.max b.min) && not (is_below b.max a.min))
overlap_by a b = rw (le_not a.min b.max, le_not b.min a.max) (and_comm (not (is_below b.max a.min)) (not (is_below a.max b.min)))

pub within_by : (a b : Range) → is_within a b ≡ (not (is_below a.min b.min) && not (is_below b.max a.max))
within_by a b = rw (le_not b.min a.min, le_not a.max b.max) refl

pub filter_same : {X : Type 0} (p q : X → Bool) → ((x : X) → p x ≡ q x) → (xs : List X) → filter p xs ≡ filter q xs
filter_same p q h [] = refl
filter_same p q h (x ∷ xs) = rw (h x, filter_same p q h xs) refl
