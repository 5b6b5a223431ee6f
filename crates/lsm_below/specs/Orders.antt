-- Laws of orders and of reversed comparisons, for proofs of every crate: a clause can't state those that range over orders.
use Rattle.std.specs.Prelude.{◌≡◌, true, false, not}
use Rattle.std.proofs.Common.{refl, sym, ap, ◌∙◌}
use Rattle.std.specs.Cmp.{IsTotalOrder}
use Rattle.std.specs.declared.cmp.Ordering.{Ordering}
use Rattle.std.specs.declared.cmp.Ordering.TheVariants.{Less, Equal, Greater}
use Rattle.std.specs.Ordering.{is_le, is_lt, is_gt, is_eq, ordering_reverse}
use Rattle.std.proofs.lemmas.Cmp.{upto, nat_list_cmp_total, alike_right}
use Rattle.lsm_below.specs.Keys.{Bytes, bytes_cmp, is_same, is_below}

gt_from_le : (r : Ordering) → is_le r ≡ true → is_gt r ≡ false
gt_from_le Less h = refl
gt_from_le Equal h = refl
gt_from_le Greater h = absurd (cc h)

le_from_gt : (r : Ordering) → is_gt r ≡ false → is_le r ≡ true
le_from_gt Less h = refl
le_from_gt Equal h = refl
le_from_gt Greater h = absurd (cc h)

le_from_lt : (r : Ordering) → is_lt r ≡ true → is_le r ≡ true
le_from_lt Less h = refl
le_from_lt Equal h = refl
le_from_lt Greater h = absurd (cc h)

le_reversed : (r : Ordering) → is_lt r ≡ false → is_le (ordering_reverse r) ≡ true
le_reversed Less h = absurd (cc h)
le_reversed Equal h = refl
le_reversed Greater h = refl

module _ {X : Type 0} {R : X → X → Ordering} (o : IsTotalOrder R) where
  pub le_trans : (x y z : X) → is_le (R x y) ≡ true → is_le (R y z) ≡ true → is_le (R x z) ≡ true
  le_trans x y z h k = le_from_gt (R x z) (upto o x y z (gt_from_le (R x y) h) (gt_from_le (R y z) k))

  pub le_of_lt : (x y : X) → is_lt (R x y) ≡ true → is_le (R x y) ≡ true
  le_of_lt x y h = le_from_lt (R x y) h

  pub le_of_not_lt : (x y : X) → is_lt (R y x) ≡ false → is_le (R x y) ≡ true
  le_of_not_lt x y h = ap is_le (o.antisymm x y) ∙ le_reversed (R y x) h

eq_reversed : (o : Ordering) → is_eq (ordering_reverse o) ≡ is_eq o
eq_reversed Less = refl
eq_reversed Equal = refl
eq_reversed Greater = refl

pub not_le_reversed : (o : Ordering) → not (is_le (ordering_reverse o)) ≡ is_lt o
not_le_reversed Less = refl
not_le_reversed Equal = refl
not_le_reversed Greater = refl

pub not_lt_reversed : (o : Ordering) → not (is_lt (ordering_reverse o)) ≡ is_le o
not_lt_reversed Less = refl
not_lt_reversed Equal = refl
not_lt_reversed Greater = refl

-- two keys are the same in either order
pub same_swap : (a b : Bytes) → is_same a b ≡ is_same b a
same_swap a b = ap is_eq (nat_list_cmp_total.antisymm a b) ∙ eq_reversed (bytes_cmp b a)

-- ---- the order of keys

is_less : (r : Ordering) → is_lt r ≡ true → r ≡ Less
is_less Less h = refl
is_less Equal h = absurd (cc h)
is_less Greater h = absurd (cc h)

pub below_less : (a b : Bytes) → is_below a b ≡ true → bytes_cmp a b ≡ Less
unfolding is_below
below_less a b h = is_less (bytes_cmp a b) h

pub le_less : (a b c : Bytes) → is_le (bytes_cmp a b) ≡ true → bytes_cmp b c ≡ Less → bytes_cmp a c ≡ Less
le_less a b c h k = go (bytes_cmp a b) refl h
  where
    go : (r : Ordering) → bytes_cmp a b ≡ r → is_le r ≡ true → bytes_cmp a c ≡ Less
    go Less is h = nat_list_cmp_total.trans a b c is k
    go Equal is h = nat_list_cmp_total.congr a b c is ∙ k
    go Greater is h = absurd (cc h)

pub less_le : (a b c : Bytes) → bytes_cmp a b ≡ Less → is_le (bytes_cmp b c) ≡ true → bytes_cmp a c ≡ Less
less_le a b c h k = go (bytes_cmp b c) refl k
  where
    go : (r : Ordering) → bytes_cmp b c ≡ r → is_le r ≡ true → bytes_cmp a c ≡ Less
    go Less is k = nat_list_cmp_total.trans a b c h is
    go Equal is k = sym (alike_right nat_list_cmp_total b c a is) ∙ h
    go Greater is k = absurd (cc k)
