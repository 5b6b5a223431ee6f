-- What the order of two entries says of their keys.
use Rattle.std.proofs.Common.{◌≡◌, ℕ, true, false, refl, ap, ◌∙◌}
use Rattle.std.specs.Ordering.{nat_cmp, ordering_then, is_eq, is_lt, is_gt}
use Rattle.std.specs.declared.cmp.Ordering.{Ordering}
use Rattle.std.specs.declared.cmp.Ordering.TheVariants.{Less, Equal, Greater}
use Rattle.lsm_below.specs.Keys.{Bytes, bytes_cmp, is_below}
use Rattle.lsm_below.specs.Entries.{Entry, entry_cmp}
use Rattle.lsm_below.specs.Slots.{same_key}
use Rattle.lsm_below.proofs.Keys.{back}

not_greater : (a b : Bytes) (n m : ℕ) (r : Ordering) → bytes_cmp a b ≡ r → ordering_then r (nat_cmp n m) ≡ Less → is_below b a ≡ false
unfolding is_below
not_greater a b n m Less is h = back a b ∙ ap is_gt is
not_greater a b n m Equal is h = back a b ∙ ap is_gt is
not_greater a b n m Greater is h = absurd (cc h)

-- of two entries in order, the second one's key is not below the first one's
pub key_upto : (x y : Entry) → entry_cmp x y ≡ Less → is_below y.key.user_key x.key.user_key ≡ false
key_upto x y h = not_greater x.key.user_key y.key.user_key y.key.seqno x.key.seqno (bytes_cmp x.key.user_key y.key.user_key) refl h

not_same : (o : Ordering) → is_lt o ≡ true → is_eq o ≡ false
not_same Less h = refl
not_same Equal h = absurd (cc h)
not_same Greater h = absurd (cc h)

pub below_not_same : (x y : Entry) → is_below x.key.user_key y.key.user_key ≡ true → same_key x y ≡ false
unfolding is_below
below_not_same x y h = not_same (bytes_cmp x.key.user_key y.key.user_key) h

strictly : (r c : Ordering) → ordering_then r c ≡ Less → is_eq r ≡ false → is_lt r ≡ true
strictly Less c h n = refl
strictly Equal c h n = absurd (cc n)
strictly Greater c h n = absurd (cc h)

-- of two entries in order with other keys, the first one's key is below the second one's
pub below_strictly : (x y : Entry) → entry_cmp x y ≡ Less → same_key x y ≡ false → is_below x.key.user_key y.key.user_key ≡ true
unfolding is_below
below_strictly x y h n = strictly (bytes_cmp x.key.user_key y.key.user_key) (nat_cmp y.key.seqno x.key.seqno) h n
