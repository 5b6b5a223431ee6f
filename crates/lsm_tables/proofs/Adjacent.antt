-- Entries that rise one after the other rise all together, by tests and by facts.
use Rattle.std.proofs.Math.Bool.{and-true, and_assoc}
use Rattle.std.proofs.Common.{◌≡◌, ℕ, ◌-◌, ◌<◌, Bool, true, false, ◌&&◌, List, [], ◌∷◌, ◌++◌, length, map, get_or, Some, slice_get, refl, sym, ap, ◌∙◌, arith}
use Rattle.std.specs.List.{All}
use Rattle.std.specs.declared.cmp.Ordering.{Ordering}
use Rattle.std.specs.declared.cmp.Ordering.TheVariants.{Less, Equal, Greater}
use Rattle.std.specs.Ordering.{is_lt}
use Rattle.std.proofs.lemmas.Bool.{and_parts, and_from}
use Rattle.std.proofs.lemmas.List.Elements.{All-cons, All-head, All-nil, All-push, All-weaker}
use Rattle.lsm_below.specs.declared.value.InternalValue.{InternalValue}
use Rattle.std.proofs.lemmas.List.{map-append}
use Rattle.lsm_below.specs.Entries.{HasBytes, entry_cmp}
use Rattle.lsm_below.specs.Heads.{entry_head, AreHeads}
use Rattle.lsm_below.specs.Slots.{is_before}
use Rattle.lsm_below.specs.Laws.{EntriesAreOrdered}
use Rattle.lsm_below.specs.Sorted.{Rises}
use Rattle.lsm_tables.specs.ImageReading.{rises_after, rises, follows_after, follows}

-- a test of the order is a fact
pub less_from_test : (o : Ordering) → is_lt o ≡ true → o ≡ Less
less_from_test Less h = refl
less_from_test Equal h = absurd (cc h)
less_from_test Greater h = absurd (cc h)

-- an entry before the first of a list that rises is before each
pub below_rising : EntriesAreOrdered → (e f : InternalValue) (es : List InternalValue) → entry_cmp e f ≡ Less → Rises entry_cmp (f ∷ es) → All (λ y. entry_cmp e y ≡ Less) (f ∷ es)
below_rising order e f es less h =
    All-cons (λ y. entry_cmp e y ≡ Less) f es less (All-weaker (λ y. entry_cmp f y ≡ Less) (λ y. entry_cmp e y ≡ Less) (λ y l. order.total.trans e f y less l) es h.0)

rises_after_found : EntriesAreOrdered → (e : InternalValue) (es : List InternalValue) → rises_after e es ≡ true → Rises entry_cmp (e ∷ es)
rises_after_found order e [] h = (All-nil (λ y. entry_cmp e y ≡ Less), tt)
rises_after_found order e (f ∷ es) h =
    let p = and_parts (is_before e f) (rises_after f es) h in
    let rest = rises_after_found order f es p.1 in
    (below_rising order e f es (less_from_test (entry_cmp e f) p.0) rest, rest)

pub rises_found : EntriesAreOrdered → (es : List InternalValue) → rises es ≡ true → Rises entry_cmp es
rises_found order [] h = tt
rises_found order (e ∷ es) h = rises_after_found order e es h

rises_after_again : (e : InternalValue) (es : List InternalValue) → Rises entry_cmp (e ∷ es) → rises_after e es ≡ true
rises_after_again e [] h = refl
rises_after_again e (f ∷ es) h =
    and_from (is_before e f) (rises_after f es) (ap is_lt (All-head (λ y. entry_cmp e y ≡ Less) f es h.0)) (rises_after_again f es h.1)

pub rises_again : (es : List InternalValue) → Rises entry_cmp es → rises es ≡ true
rises_again [] h = refl
rises_again (e ∷ es) h = rises_after_again e es h

rises_after_push : (e : InternalValue) (es : List InternalValue) (f : InternalValue) → rises_after e (es ++ f ∷ []) ≡ (rises_after e es && follows_after e es f)
rises_after_push e [] f = and-true (is_before e f)
rises_after_push e (g ∷ es) f = ap (λ (b : Bool). is_before e g && b) (rises_after_push g es f) ∙ sym (and_assoc (is_before e g) (rises_after g es) (follows_after g es f))

-- entries with one more rise where they rose and it follows them
pub rises_push : (es : List InternalValue) (f : InternalValue) → rises (es ++ f ∷ []) ≡ (rises es && follows es f)
rises_push [] f = refl
rises_push (e ∷ es) f = rises_after_push e es f

last_after : (e : InternalValue) (es : List InternalValue) (f l : InternalValue) → slice_get (e ∷ es) (length es) ≡ Some l → follows_after e es f ≡ is_before l f
last_after e [] f l h = let same : e ≡ l = cc in ap (λ (k : InternalValue). is_before k f) same
last_after e (g ∷ es) f l h = last_after g es f l h

-- what follows the last one follows them all
pub follows_last : (es : List InternalValue) (f l : InternalValue) → slice_get es (length es - 1) ≡ Some l → follows es f ≡ is_before l f
follows_last [] f l h = absurd cc
follows_last (e ∷ es) f l h =
    let n : length (e ∷ es) - 1 ≡ length es = omega arith in
    last_after e es f l (ap (slice_get (e ∷ es)) (sym n) ∙ h)

at_last : (e : InternalValue) (es : List InternalValue) (f d : InternalValue) → follows_after e es f ≡ is_before (get_or (e ∷ es) (length es) d) f
at_last e [] f d = refl
at_last e (g ∷ es) f d = at_last g es f d

-- the same of the last one by its place
pub follows_at : (es : List InternalValue) (f d : InternalValue) → 0 < length es → follows es f ≡ is_before (get_or es (length es - 1) d) f
follows_at [] f d some = absurd (omega arith)
follows_at (e ∷ es) f d some =
    let n : length es ≡ length (e ∷ es) - 1 = omega arith in
    at_last e es f d ∙ ap (λ i. is_before (get_or (e ∷ es) i d) f) n

-- with one more
pub heads_push : (heads : List ℕ) (es : List InternalValue) (head : ℕ) (e : InternalValue) → AreHeads heads es → head ≡ entry_head e → HasBytes e → AreHeads (heads ++ head ∷ []) (es ++ e ∷ [])
heads_push heads es head e are is own = record {
  same = ap (λ l. l ++ head ∷ []) are.same ∙ ap (λ h. map entry_head es ++ h ∷ []) is ∙ sym (map-append entry_head es (e ∷ []));
  bytes = All-push HasBytes es e are.bytes own;
}

pub and_when : (x y : Bool) → x ≡ true → (x && y) ≡ y
and_when true y h = refl
and_when false y h = absurd cc
