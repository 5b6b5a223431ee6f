-- Keys that begin alike stand between two bounds.
use Rattle.std.proofs.Common.{◌≡◌, ℕ, suc, ◌+◌, ◌<◌, Bool, true, false, ◌&&◌, List, [], ◌∷◌, ◌++◌, length, refl, ◌∙◌, arith, eqb}
use Rattle.std.specs.List.{AllByRecursion, starts_with}
use Rattle.std.specs.Ordering.{nat_cmp, is_le, is_lt}
use Rattle.std.specs.Cmp.Lexicographic.{slice_cmp}
use Rattle.std.proofs.lemmas.Bool.Decides.{nat_tests}
use Rattle.lsm_below.specs.Keys.{AreBytes}

-- each byte is 255
abbrev pub IsFull : List ℕ → Type 0
IsFull t = AllByRecursion (λ b. b ≡ 255) t

-- bytes that aren't below bytes 255 begin with them
full_begins : (t k : List ℕ) → IsFull t → AreBytes k → is_le (slice_cmp nat_cmp t k) ≡ starts_with eqb k t
full_begins [] [] f s = refl
full_begins [] (c ∷ k) f s = refl
full_begins (b ∷ t) [] f s = refl
full_begins (b ∷ t) (c ∷ k) f s =
    let ih = full_begins t k f.1 (λ i. s (suc i)) in
    let h : b ≡ 255 = f.0 in
    let l : c < 256 = s 0 in
    grind (arith, nat_tests)

none_below : (k : List ℕ) → is_lt (slice_cmp nat_cmp k []) ≡ false
none_below [] = refl
none_below (c ∷ k) = refl

-- what stands from the prefix on, and before the raised one, begins with the prefix
pub between : (r : List ℕ) (b : ℕ) (t k : List ℕ) → b < 255 → IsFull t → AreBytes k → (is_le (slice_cmp nat_cmp (r ++ b ∷ t) k) && is_lt (slice_cmp nat_cmp k (r ++ (b + 1) ∷ []))) ≡ starts_with eqb k (r ++ b ∷ t)
between [] b t [] lt f s = refl
between [] b t (c ∷ k) lt f s =
    let ih = full_begins t k f (λ i. s (suc i)) in
    let none = none_below k in
    grind (arith, nat_tests)
between (x ∷ r) b t [] lt f s = refl
between (x ∷ r) b t (c ∷ k) lt f s =
    let ih = between r b t k lt f (λ i. s (suc i)) in
    grind (arith, nat_tests)

pub and_true : (b : Bool) → (b && true) ≡ b
and_true true = refl
and_true false = refl

-- where nothing but bytes 255 is left, no upper bound is needed
pub full_only : (p rest t k : List ℕ) → p ≡ rest ++ t → length rest ≡ 0 → IsFull t → AreBytes k → (is_le (slice_cmp nat_cmp p k) && true) ≡ starts_with eqb k p
full_only p [] t k is none f s = and_true (is_le (slice_cmp nat_cmp p k)) ∙ rw is (full_begins t k f s)
full_only p (x ∷ rest) t k is none f s = absurd (omega (arith, none))

-- ---- whatever its sequence numbers

begins_from : (t k : List ℕ) → starts_with eqb k t ≡ true → is_le (slice_cmp nat_cmp t k) ≡ true
begins_from [] [] h = refl
begins_from [] (c ∷ k) h = refl
begins_from (b ∷ t) [] h = absurd (cc h)
begins_from (b ∷ t) (c ∷ k) h =
    let ih = begins_from t k in
    grind (arith, nat_tests)

-- what begins with the prefix stands from the prefix on, and before the raised one
pub begins_between : (r : List ℕ) (b : ℕ) (t k : List ℕ) → starts_with eqb k (r ++ b ∷ t) ≡ true → (is_le (slice_cmp nat_cmp (r ++ b ∷ t) k) && is_lt (slice_cmp nat_cmp k (r ++ (b + 1) ∷ []))) ≡ true
begins_between [] b t [] h = absurd (cc h)
begins_between [] b t (c ∷ k) h =
    let from = begins_from t k in
    let none = none_below k in
    grind (arith, nat_tests)
begins_between (x ∷ r) b t [] h = absurd (cc h)
begins_between (x ∷ r) b t (c ∷ k) h =
    let ih = begins_between r b t k in
    grind (arith, nat_tests)

pub begins_on : (p k : List ℕ) → starts_with eqb k p ≡ true → (is_le (slice_cmp nat_cmp p k) && true) ≡ true
begins_on p k h = and_true (is_le (slice_cmp nat_cmp p k)) ∙ begins_from p k h
