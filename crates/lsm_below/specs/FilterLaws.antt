-- What filters keep: laws for proofs of this crate and of those above it.
use Rattle.std.proofs.Common.{◌≡◌, Bool, true, false, cond, List, [], ◌∷◌, filter, refl, ap, ◌∙◌}
use Rattle.std.specs.List.{AllByRecursion}

-- a filter that none passes, and one that all pass
pub filter_none : {A : Type 0} (t : A → Bool) (xs : List A) → AllByRecursion (λ x. t x ≡ false) xs → filter t xs ≡ []
filter_none t [] h = refl
filter_none t (x ∷ xs) h = ap (λ b. cond b (x ∷ filter t xs) (filter t xs)) h.0 ∙ filter_none t xs h.1

pub filter_all : {A : Type 0} (t : A → Bool) (xs : List A) → AllByRecursion (λ x. t x ≡ true) xs → filter t xs ≡ xs
filter_all t [] h = refl
filter_all t (x ∷ xs) h = ap (λ b. cond b (x ∷ filter t xs) (filter t xs)) h.0 ∙ ap (λ l. x ∷ l) (filter_all t xs h.1)

pub filter_twice : {A : Type 0} (t : A → Bool) (xs : List A) → filter t (filter t xs) ≡ filter t xs
filter_twice t [] = refl
filter_twice t (x ∷ xs) = elim (t x) as (λ b. t x ≡ b → filter t (cond b (x ∷ filter t xs) (filter t xs)) ≡ cond b (x ∷ filter t xs) (filter t xs)) [
  | true ↦ λ q. ap (λ b. cond b (x ∷ filter t (filter t xs)) (filter t (filter t xs))) q ∙ ap (λ l. x ∷ l) (filter_twice t xs)
  | false ↦ λ q. filter_twice t xs
] refl
