-- What holds along a list that rises.
use Rattle.std.proofs.Common.{◌≡◌, ℕ, zero, suc, ◌<◌, ◌≤◌, List, [], ◌∷◌, ◌++◌, length, get_or, sym, ◌∙◌, ap, arith}
use Rattle.std.specs.declared.cmp.Ordering.{Ordering}
use Rattle.std.specs.declared.cmp.Ordering.TheVariants.{Less, Equal, Greater}
use Rattle.std.specs.Ordering.{ordering_reverse, ordering_index}
use Rattle.std.specs.Cmp.{IsTotalOrder}
use Rattle.std.specs.List.{AllByRecursion}
use Rattle.std.proofs.lemmas.List.Elements.{All-get_or, All-append, All-from_recursion}
use Rattle.lsm_below.specs.Sorted.{Rises}

module _ {X : Type 0} {R : X → X → Ordering} (o : IsTotalOrder R) where
  -- R x y ≡ Less turns into R y x ≡ Greater, and so on
  pub flipped : (x y : X) (a : Ordering) → R x y ≡ a → R y x ≡ ordering_reverse a
  flipped x y a e = o.antisymm y x ∙ ap ordering_reverse e

  pub tied_right : (x y z : X) → R y z ≡ Equal → R x y ≡ R x z
  tied_right x y z e = o.antisymm x y ∙ ap ordering_reverse (o.congr y z x e) ∙ sym (o.antisymm x z)

  pub rises_at : (xs : List X) (i j : ℕ) (d : X) → Rises R xs → i < j → j < length xs → R (get_or xs i d) (get_or xs j d) ≡ Less
  rises_at [] i j d h lt in_range = absurd (omega arith)
  rises_at (x ∷ xs) zero zero d h lt in_range = absurd (omega arith)
  rises_at (x ∷ xs) zero (suc j) d h lt in_range = All-get_or (λ y. R x y ≡ Less) xs j d (omega arith) h.0
  rises_at (x ∷ xs) (suc i) zero d h lt in_range = absurd (omega arith)
  rises_at (x ∷ xs) (suc i) (suc j) d h lt in_range = rises_at xs i j d h.1 (omega arith) (omega arith)

-- a rising list after another, all of which comes before it
pub rises_append : {X : Type 0} (R : X → X → Ordering) (xs ys : List X) → Rises R xs → Rises R ys → AllByRecursion (λ x. AllByRecursion (λ y. R x y ≡ Less) ys) xs → Rises R (xs ++ ys)
rises_append R [] ys h k apart = k
rises_append R (x ∷ xs) ys h k apart = (All-append (λ y. R x y ≡ Less) xs ys h.0 (All-from_recursion (λ y. R x y ≡ Less) ys apart.0), rises_append R xs ys h.1 k apart.1)
