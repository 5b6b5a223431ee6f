-- What may stand in front of a list.
use Rattle.std.proofs.Common.{◌≡◌, ◌<◌, Bool, true, false, cond, not, List, [], ◌∷◌, length, get_or, refl, sym, ap, arith}
use Rattle.std.specs.Ordering.{is_le}
use Rattle.lsm_below.specs.declared.value.InternalValue.{InternalValue}
use Rattle.lsm_below.specs.Entries.{entry_cmp}
use Rattle.lsm_below.specs.Streams.{IsInOrder}
use Rattle.lsm_below.specs.Slots.{is_before, fits_front}
use Rattle.lsm_below.specs.Orders.{le_of_not_lt}
use Rattle.lsm_below.proofs.Orders.{entry_total, below_all}

pub fits_none : (e : InternalValue) (es : List InternalValue) → length es ≡ 0 → true ≡ fits_front e es
fits_none e [] h = refl
fits_none e (f ∷ es) h = absurd (omega arith)

pub fits_some : (e f : InternalValue) (es : List InternalValue) → 0 < length es → f ≡ get_or es 0 f → not (is_before f e) ≡ fits_front e es
fits_some e f [] h is = absurd (omega arith)
fits_some e f (g ∷ es) h is = ap (λ x. not (is_before x e)) is

pub in_front : (e : InternalValue) (es : List InternalValue) → IsInOrder es → fits_front e es ≡ true → IsInOrder (e ∷ es)
in_front e [] h f = (tt, tt)
in_front e (g ∷ es) h f =
    let le : is_le (entry_cmp e g) ≡ true = le_of_not_lt entry_total e g (go (is_before g e) f) in
    ((le, below_all entry_total e g es le h.0), h)
  where
    go : (b : Bool) → not b ≡ true → b ≡ false
    go true q = sym q
    go false q = refl

pub pushed_front : (e : InternalValue) (es items : List InternalValue) (b : Bool) → IsInOrder es → fits_front e es ≡ true → items ≡ cond b (e ∷ es) es → IsInOrder items
pushed_front e es items true h f is = rw is (in_front e es h f)
pushed_front e es items false h f is = rw is h
