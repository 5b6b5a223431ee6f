-- Items that were dealt to two lists.
use Rattle.std.proofs.Common.{◌≡◌, ◌+◌, ◌-◌, ℕ, List, [], ◌∷◌, ◌++◌, length, map, refl, sym, ◌∙◌, ap, arith, append_assoc, append-nil}
use Rattle.std.specs.List.{All, insert}
use Rattle.std.proofs.lemmas.List.{length-append, nil_from_length}
use Rattle.std.proofs.lemmas.List.Edits.{insert-append_right}
use Rattle.std.proofs.lemmas.List.Elements.{All-cons, All-head, All-tail, All-nil}

module _ {X : Type 0} where
  -- an item put after the first part, the rest after it
  pub dealt_at : (front rest xs all : List X) (n : ℕ) (x : X) → front ++ rest ≡ xs → length front ≡ n → all ≡ (front ++ x ∷ []) ++ rest → all ≡ insert xs n x
  dealt_at front rest xs all n x whole len is =
      let here : n - n ≡ 0 = omega arith in
      is
      ∙ (append_assoc front (x ∷ []) rest
      ∙ sym (ap (λ l. insert l n x) (sym whole) ∙ (insert-append_right front rest n n x len (omega arith) ∙ ap (λ k. front ++ insert rest k x) here)))

  -- nothing was dealt to the upper list
  pub all_kept : (lower upper xs : List X) → lower ++ upper ≡ xs → length lower ≡ length xs → lower ≡ xs
  all_kept lower upper xs both len =
      let total : length lower + length upper ≡ length xs = sym (length-append lower upper) ∙ ap (λ (l : List X). length l) both in
      sym (append-nil lower) ∙ (ap (λ l. lower ++ l) (sym (nil_from_length upper (omega arith))) ∙ both)

  pub all_lower : (P : X → Type 0) (xs ys : List X) → All P (xs ++ ys) → All P xs
  all_lower P [] ys all = All-nil P
  all_lower P (x ∷ xs) ys all = All-cons P x xs (All-head P x (xs ++ ys) all) (all_lower P xs ys (All-tail P x (xs ++ ys) all))

  pub all_upper : (P : X → Type 0) (xs ys : List X) → All P (xs ++ ys) → All P ys
  all_upper P [] ys all = all
  all_upper P (x ∷ xs) ys all = all_upper P xs ys (All-tail P x (xs ++ ys) all)

-- two lists that were cut alike are alike in both parts
module _ {X Y : Type 0} (f : X → Y) where
  pub same_lower : (hs us : List Y) (xs ys : List X) → hs ++ us ≡ map f (xs ++ ys) → length hs ≡ length xs → hs ≡ map f xs
  same_lower [] us [] ys same len = refl
  same_lower [] us (x ∷ xs) ys same len = absurd (omega arith)
  same_lower (h ∷ hs) us [] ys same len = absurd (omega arith)
  same_lower (h ∷ hs) us (x ∷ xs) ys same len =
      let head : h ≡ f x = cc same in
      let tail : hs ++ us ≡ map f (xs ++ ys) = cc same in
      ap (λ y. y ∷ hs) head ∙ ap (λ l. f x ∷ l) (same_lower hs us xs ys tail (omega arith))

  pub same_upper : (hs us : List Y) (xs ys : List X) → hs ++ us ≡ map f (xs ++ ys) → length hs ≡ length xs → us ≡ map f ys
  same_upper [] us [] ys same len = same
  same_upper [] us (x ∷ xs) ys same len = absurd (omega arith)
  same_upper (h ∷ hs) us [] ys same len = absurd (omega arith)
  same_upper (h ∷ hs) us (x ∷ xs) ys same len = let tail : hs ++ us ≡ map f (xs ++ ys) = cc same in same_upper hs us xs ys tail (omega arith)
