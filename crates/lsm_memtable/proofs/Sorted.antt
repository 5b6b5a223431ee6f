-- What an edit makes of a list that rises.
use Rattle.std.proofs.Common.{◌≡◌, ℕ, zero, suc, ◌<◌, ◌≤◌, List, [], ◌∷◌, length, get_or, set, refl, sym, ◌∙◌, ap, arith}
use Rattle.std.specs.declared.cmp.Ordering.{Ordering}
use Rattle.std.specs.declared.cmp.Ordering.TheVariants.{Less, Equal, Greater}
use Rattle.std.specs.Ordering.{ordering_reverse}
use Rattle.std.specs.Cmp.{IsTotalOrder}
use Rattle.std.specs.List.{All, insert}
use Rattle.std.proofs.lemmas.List.Elements.{All-cons, All-head, All-tail, All-nil, All-weaker, All-get_or}
use Rattle.lsm_below.specs.Sorted.{Rises, put, by_ordering}

module _ {X : Type 0} {R : X → X → Ordering} (o : IsTotalOrder R) where
  -- what is below an item is below one that ties with it
  less_tied : (x y z : X) → R x y ≡ Less → R y z ≡ Equal → R x z ≡ Less
  less_tied x y z less tie = o.antisymm x z ∙ ap ordering_reverse (sym (o.congr y z x tie) ∙ (o.antisymm y x ∙ ap ordering_reverse less))

  -- an edit of the list keeps what each item has
  pub all_put : (P : X → Type 0) (e : X) (xs : List X) → P e → All P xs → All P (put R e xs)
  all_put P e [] p a = All-cons P e [] p a
  all_put P e (x ∷ xs) p a = elim (R x e) as (λ r. All P (by_ordering r (x ∷ put R e xs) (e ∷ xs) (e ∷ x ∷ xs))) [
    | Less ↦ All-cons P x (put R e xs) (All-head P x xs a) (all_put P e xs p (All-tail P x xs a))
    | Equal ↦ All-cons P e xs p (All-tail P x xs a)
    | Greater ↦ All-cons P e (x ∷ xs) p a
  ]

  rises_cases : (e x : X) (xs : List X) → Rises R (x ∷ xs) → Rises R (put R e xs) → (r : Ordering) → R x e ≡ r → Rises R (by_ordering r (x ∷ put R e xs) (e ∷ xs) (e ∷ x ∷ xs))
  rises_cases e x xs h later Less is = (all_put (λ y. R x y ≡ Less) e xs is h.0, later)
  rises_cases e x xs h later Equal is = (All-weaker (λ y. R x y ≡ Less) (λ y. R e y ≡ Less) (λ y l. sym (o.congr x e y is) ∙ l) xs h.0, h.1)
  rises_cases e x xs h later Greater is =
      let less : R e x ≡ Less = o.antisymm e x ∙ ap ordering_reverse is in
      (All-cons (λ y. R e y ≡ Less) x xs less (All-weaker (λ y. R x y ≡ Less) (λ y. R e y ≡ Less) (λ y l. o.trans e x y less l) xs h.0), h)

  -- an edit keeps the order
  pub rises_put : (e : X) (xs : List X) → Rises R xs → Rises R (put R e xs)
  rises_put e [] h = (All-nil (λ y. R e y ≡ Less), tt)
  rises_put e (x ∷ xs) h = rises_cases e x xs h (rises_put e xs h.1) (R x e) refl

  -- over the item that ties with e
  pub put_set : (e : X) (xs : List X) (at : ℕ) (d : X) → Rises R xs → at < length xs → R (get_or xs at d) e ≡ Equal → put R e xs ≡ set xs at e
  put_set e [] at d h in_range tie = absurd (omega arith)
  put_set e (x ∷ xs) zero d h in_range tie = ap (λ r. by_ordering r (x ∷ put R e xs) (e ∷ xs) (e ∷ x ∷ xs)) tie
  put_set e (x ∷ xs) (suc at) d h in_range tie =
      let less : R x e ≡ Less = less_tied x (get_or xs at d) e (All-get_or (λ y. R x y ≡ Less) xs at d (omega arith) h.0) tie in
      ap (λ r. by_ordering r (x ∷ put R e xs) (e ∷ xs) (e ∷ x ∷ xs)) less ∙ ap (λ l. x ∷ l) (put_set e xs at d h.1 (omega arith) tie)

  -- into the gap for e
  pub put_insert : (e : X) (xs : List X) (at : ℕ) → at ≤ length xs → ((j : ℕ) (d : X) → j < at → R (get_or xs j d) e ≡ Less) → ((j : ℕ) (d : X) → at ≤ j → j < length xs → R (get_or xs j d) e ≡ Greater)
      → put R e xs ≡ insert xs at e
  put_insert e [] zero in_range below above = refl
  put_insert e [] (suc at) in_range below above = absurd (omega arith)
  put_insert e (x ∷ xs) zero in_range below above = ap (λ r. by_ordering r (x ∷ put R e xs) (e ∷ xs) (e ∷ x ∷ xs)) (above 0 x (omega arith) (omega arith))
  put_insert e (x ∷ xs) (suc at) in_range below above =
      ap (λ r. by_ordering r (x ∷ put R e xs) (e ∷ xs) (e ∷ x ∷ xs)) (below 0 x (omega arith))
      ∙ ap (λ l. x ∷ l) (put_insert e xs at (omega arith) (λ j d lt. below (suc j) d (omega arith)) (λ j d le lt. above (suc j) d (omega arith) (omega arith)))
