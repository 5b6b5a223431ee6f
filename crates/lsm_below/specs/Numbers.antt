-- Numbers as they are printed, and laws of them for all crates.
use Rattle.std.proofs.Common.{◌≡◌, ℕ, ◌<◌, ◌^◌, Bool, true, false, ◌&&◌, cond, List, Option, Some, None, refl, sym, ◌∙◌, ap, subst, arith, decimal, nat_lt, bytes_eq, if◌then◌else◌}
use Rattle.std.proofs.lemmas.Bool.Decides.{nat_tests}
use Rattle.std.proofs.lemmas.Slice.Eq.{bytes_eq-Decides}
use Rattle.std.proofs.lemmas.Fmt.{decimal_is_IsNumeral}
use Rattle.std.specs.Str.Parse.{digits_value}

-- the number below 2^64 that a text writes in plain decimal, with no leading 0
unfoldable pub plain_number : List ℕ → Option ℕ
plain_number w =
    let n = digits_value 10 w in
    if nat_lt n (2 ^ 64) && bytes_eq w (decimal n) then Some n else None

-- what printing a number writes is read back
abbrev pub PlainNumbersAreRead : Type 0
PlainNumbersAreRead = (n : ℕ) → n < 2 ^ 64 → plain_number (decimal n) ≡ Some n

-- a choice between a number and nothing
taken : (a b : Bool) (v n : ℕ) → a ≡ true → b ≡ true → v ≡ n → cond (a && b) (Some v) None ≡ Some n
taken a b v n p q e = rw (p, q, e) refl

both : (a b : Bool) (v n : ℕ) → cond (a && b) (Some v) None ≡ Some n → (a ≡ true) × (b ≡ true) × (v ≡ n)
both true true v n e = (refl, refl, cc)
both true false v n e = cc
both false b v n e = cc

neither : (a b : Bool) (v : ℕ) → (a ≡ true → b ≡ true → ⊥) → cond (a && b) (Some v) None ≡ None
neither true true v h = absurd (h refl refl)
neither true false v h = refl
neither false b v h = refl

below : (n : ℕ) → n < 2 ^ 64 → nat_lt n (2 ^ 64) ≡ true
below n h = grind (arith, nat_tests)

is_below : (n : ℕ) → nat_lt n (2 ^ 64) ≡ true → n < 2 ^ 64
is_below n h = grind (arith, nat_tests)

-- what printing a number writes is read back
pub plain_number-decimal : (w : List ℕ) (n : ℕ) → n < 2 ^ 64 → w ≡ decimal n → plain_number w ≡ Some n
unfolding plain_number
plain_number-decimal w n small e =
    let v : digits_value 10 w ≡ n = ap (digits_value 10) e ∙ (decimal_is_IsNumeral n small).1 in
    taken _ _ _ _ (subst (λ k. nat_lt k (2 ^ 64) ≡ true) (sym v) (below n small))
    ((bytes_eq-Decides w (decimal (digits_value 10 w))).1 (e ∙ ap decimal (sym v))) v

-- and nothing else is read
pub plain_number-is : (w : List ℕ) (n : ℕ) → plain_number w ≡ Some n → (n < 2 ^ 64) × (w ≡ decimal n)
unfolding plain_number
plain_number-is w n e =
    let h = both _ _ _ _ e in
    (subst (λ k. k < 2 ^ 64) h.2 (is_below _ h.0), (bytes_eq-Decides w (decimal (digits_value 10 w))).0 h.1 ∙ ap decimal h.2)

pub no_number : (w : List ℕ) → ((n : ℕ) → n < 2 ^ 64 → w ≡ decimal n → ⊥) → plain_number w ≡ None
unfolding plain_number
no_number w h = neither _ _ _ (λ p q. h (digits_value 10 w) (is_below _ p) ((bytes_eq-Decides w (decimal (digits_value 10 w))).0 q))
