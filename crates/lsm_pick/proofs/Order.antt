-- The order of keys.
use Rattle.std.proofs.Common.{◌≡◌, true, false, refl, sym, ap, ◌∙◌}
use Rattle.std.specs.Ordering.{is_le, is_lt, ordering_reverse}
use Rattle.std.specs.declared.cmp.Ordering.{Ordering}
use Rattle.std.specs.declared.cmp.Ordering.TheVariants.{Less, Equal, Greater}
use Rattle.std.proofs.lemmas.Cmp.{nat_list_cmp_total, tied_itself}
use Rattle.lsm_below.specs.Keys.{Bytes, bytes_cmp, is_below}
use Rattle.lsm_below.specs.Orders.{le_trans, le_of_lt, le_of_not_lt}
use Rattle.lsm_pick.specs.Tables.{is_upto}

both_ways : (o : Ordering) → is_le o ≡ true → is_lt (ordering_reverse o) ≡ true → ⊥
both_ways Less h k = cc k
both_ways Equal h k = cc k
both_ways Greater h k = cc h

-- a ≤ b ≤ c
pub upto_trans : (a b c : Bytes) → is_upto a b ≡ true → is_upto b c ≡ true → is_upto a c ≡ true
upto_trans = le_trans nat_list_cmp_total

pub below_upto : (a b : Bytes) → is_below a b ≡ true → is_upto a b ≡ true
unfolding is_below
below_upto = le_of_lt nat_list_cmp_total

-- a ≤ b and b < a
pub clash : (a b : Bytes) → is_upto a b ≡ true → is_below b a ≡ true → ⊥
unfolding is_below
clash a b h k = both_ways (bytes_cmp a b) h (ap is_lt (sym (nat_list_cmp_total.antisymm b a)) ∙ k)

pub upto_self : (a : Bytes) → is_upto a a ≡ true
upto_self a = ap is_le (tied_itself nat_list_cmp_total a)

pub not_below : (a b : Bytes) → is_below a b ≡ false → is_upto b a ≡ true
unfolding is_below
not_below a b = le_of_not_lt nat_list_cmp_total b a

-- a < b ≤ c
pub below_then : (a b c : Bytes) → is_below a b ≡ true → is_upto b c ≡ true → is_below a c ≡ true
below_then a b c h k = elim (is_below a c) as (λ t. is_below a c ≡ t → t ≡ true) [
  | true ↦ λ e. refl
  | false ↦ λ e. absurd (clash b a (upto_trans b c a k (not_below a c e)) h)
] refl
