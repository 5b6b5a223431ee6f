-- An element of a list, and its laws, for proofs of every crate: a clause can't state those that range over facts.
use Rattle.std.specs.Prelude.{◌≡◌, Bool, true, false, cond, List, [], ◌∷◌, filter, ◌⊎◌}
use Rattle.std.proofs.Common.{refl, sym, ◌∙◌, ap, subst, inl, inr, ⊎_elim}
use Rattle.std.specs.List.{AllByRecursion}

-- an element is one of a list
abbrev pub IsIn : {A : Type 0} → A → List A → Type 0
IsIn x [] = ⊥
IsIn x (y ∷ ys) = (y ≡ x) ⊎ IsIn x ys

pub each_in : {A : Type 0} (P : A → Type 0) (xs : List A) (x : A) → AllByRecursion P xs → IsIn x xs → P x
each_in P [] x h i = absurd i
each_in P (y ∷ xs) x h i = ⊎_elim (λ (e : y ≡ x). subst P e h.0) (λ (j : IsIn x xs). each_in P xs x h.1 j) i

pub in_filter : {A : Type 0} (t : A → Bool) (xs : List A) (x : A) → IsIn x (filter t xs) → IsIn x xs × (t x ≡ true)
in_filter t [] x i = absurd i
in_filter t (y ∷ xs) x i =
    elim (t y) as (λ b. t y ≡ b → IsIn x (cond b (y ∷ filter t xs) (filter t xs)) → IsIn x (y ∷ xs) × (t x ≡ true)) [
      | true ↦ λ h j. ⊎_elim (λ (e : y ≡ x). (inl e, subst (λ z. t z ≡ true) e h)) (λ (k : IsIn x (filter t xs)). let r = in_filter t xs x k in (inr r.0, r.1)) j
      | false ↦ λ h j. let r = in_filter t xs x j in (inr r.0, r.1)
    ] refl i

pub filter_in : {A : Type 0} (t : A → Bool) (xs : List A) (x : A) → IsIn x xs → t x ≡ true → IsIn x (filter t xs)
filter_in t [] x i h = absurd i
filter_in t (y ∷ xs) x i h =
    elim (t y) as (λ b. t y ≡ b → IsIn x (cond b (y ∷ filter t xs) (filter t xs))) [
      | true ↦ λ q. ⊎_elim (λ (e : y ≡ x). inl e) (λ (j : IsIn x xs). inr (filter_in t xs x j h)) i
      | false ↦ λ q. ⊎_elim (λ (e : y ≡ x). let z : true ≡ false = sym h ∙ (ap t (sym e) ∙ q) in absurd (cc z)) (λ (j : IsIn x xs). filter_in t xs x j h) i
    ] refl
