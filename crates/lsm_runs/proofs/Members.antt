-- Elements of lists that are joined, and of their first parts.
use Rattle.std.proofs.Common.{◌≡◌, ◌⊎◌, ⊎_elim, inl, inr, ℕ, zero, suc, ◌≤◌, arith, List, [], ◌∷◌, ◌++◌, take}
use Rattle.lsm_below.specs.Members.{IsIn}

pub in_first : {A : Type 0} (x : A) (xs ys : List A) → IsIn x xs → IsIn x (xs ++ ys)
in_first x [] ys i = absurd i
in_first x (z ∷ xs) ys i = ⊎_elim (λ (e : z ≡ x). inl e) (λ (j : IsIn x xs). inr (in_first x xs ys j)) i

pub in_either : {A : Type 0} (x : A) (xs ys : List A) → IsIn x (xs ++ ys) → IsIn x xs ⊎ IsIn x ys
in_either x [] ys i = inr i
in_either x (z ∷ xs) ys i = ⊎_elim (λ (e : z ≡ x). inl (inl e)) (λ (j : IsIn x (xs ++ ys)). ⊎_elim (λ a. inl (inr a)) (λ b. inr b) (in_either x xs ys j)) i

pub in_front : {A : Type 0} (x : A) (k many : ℕ) (xs : List A) → k ≤ many → IsIn x (take k xs) → IsIn x (take many xs)
in_front x zero many xs low i = absurd i
in_front x (suc k) zero xs low i = absurd (omega (low, arith))
in_front x (suc k) (suc many) [] low i = absurd i
in_front x (suc k) (suc many) (y ∷ xs) low i = ⊎_elim (λ (e : y ≡ x). inl e) (λ (j : IsIn x (take k xs)). inr (in_front x k many xs (omega (low, arith)) j)) i
