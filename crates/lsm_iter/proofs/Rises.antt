-- Parts of lists that rise.
use Rattle.std.proofs.Common.{◌≡◌, ℕ, zero, suc, ◌-◌, Bool, true, false, cond, List, [], ◌∷◌, ◌++◌, length, take, drop, filter, slice_range, refl, subst}
use Rattle.std.specs.declared.cmp.Ordering.{Ordering}
use Rattle.std.specs.declared.cmp.Ordering.TheVariants.{Less}
use Rattle.std.proofs.lemmas.List.{take_at}
use Rattle.std.proofs.lemmas.List.Elements.{All-take, All-filter}
use Rattle.lsm_below.specs.Sorted.{Rises}

module _ {X : Type 0} (R : X → X → Ordering) where
  -- what passes a test rises as all did
  pub rises_filter : (p : X → Bool) (xs : List X) → Rises R xs → Rises R (filter p xs)
  rises_filter p [] h = tt
  rises_filter p (x ∷ xs) h = elim (p x) as (λ b. Rises R (cond b (x ∷ filter p xs) (filter p xs))) [
    | true ↦ (All-filter p (λ y. R x y ≡ Less) xs h.0, rises_filter p xs h.1)
    | false ↦ rises_filter p xs h.1
  ]

  pub rises_take : (n : ℕ) (xs : List X) → Rises R xs → Rises R (take n xs)
  rises_take zero xs h = tt
  rises_take (suc n) [] h = tt
  rises_take (suc n) (x ∷ xs) h = (All-take (λ y. R x y ≡ Less) n xs h.0, rises_take n xs h.1)

  rises_drop : (n : ℕ) (xs : List X) → Rises R xs → Rises R (drop n xs)
  rises_drop zero xs h = h
  rises_drop (suc n) [] h = tt
  rises_drop (suc n) (x ∷ xs) h = rises_drop n xs h.1

  pub rises_range : (xs : List X) (i j : ℕ) → Rises R xs → Rises R (slice_range xs i j)
  rises_range xs i j h = rises_take (j - i) (drop i xs) (rises_drop i xs h)

  pub rises_left : (xs ys : List X) → Rises R (xs ++ ys) → Rises R xs
  rises_left xs ys h = subst (Rises R) (take_at xs ys (length xs) refl) (rises_take (length xs) (xs ++ ys) h)

  pub rises_right : (xs ys : List X) → Rises R (xs ++ ys) → Rises R ys
  rises_right [] ys h = h
  rises_right (x ∷ xs) ys h = rises_right xs ys h.1
