-- The entries within bounds stand together.
use Rattle.std.proofs.Common.{◌≡◌, ℕ, zero, suc, ◌+◌, ◌-◌, ◌<◌, ◌≤◌, min, Bool, true, false, not, cond, ◌&&◌, List, [], ◌∷◌, length, get_or, take, drop, filter, refl, sym, ◌∙◌, ap, arith, inl, inr, length-drop}
use Rattle.std.specs.declared.cmp.Ordering.{Ordering}
use Rattle.std.specs.declared.cmp.Ordering.TheVariants.{Less, Equal, Greater}
use Rattle.std.specs.declared.ops.Bound.{Bound}
use Rattle.std.specs.declared.ops.Bound.TheVariants.{Included, Excluded, Unbounded}
use Rattle.std.specs.Ordering.{nat_cmp, ordering_then, ordering_index, is_lt, is_le}
use Rattle.std.specs.List.Sorted.{IsPartitionedBy, IsPartitionPoint, IsNonDecreasingBy}
use Rattle.std.proofs.lemmas.Cmp.{nat_list_cmp_total}
use Rattle.std.proofs.lemmas.Bool.{cases_lt, not-true, not-false}
use Rattle.std.proofs.lemmas.List.{get_or-drop}

-- ---- filters of a list that two places part

module _ {X : Type 0} (p : X → Bool) where
  -- what passes comes after a place
  filter_behind : (xs : List X) (at : ℕ) → ((j : ℕ) (d : X) → j < at → j < length xs → p (get_or xs j d) ≡ false) → ((j : ℕ) (d : X) → at ≤ j → j < length xs → p (get_or xs j d) ≡ true)
      → filter p xs ≡ drop at xs
  filter_behind [] zero fail pass = refl
  filter_behind [] (suc at) fail pass = refl
  filter_behind (x ∷ xs) zero fail pass =
      ap (λ b. cond b (x ∷ filter p xs) (filter p xs)) (pass 0 x (omega arith) (omega arith))
      ∙ ap (λ l. x ∷ l) (filter_behind xs zero (λ j d lt. absurd (omega arith)) (λ j d le lt. pass (suc j) d (omega arith) (omega arith)))
  filter_behind (x ∷ xs) (suc at) fail pass =
      ap (λ b. cond b (x ∷ filter p xs) (filter p xs)) (fail 0 x (omega arith) (omega arith))
      ∙ filter_behind xs at (λ j d lt le. fail (suc j) d (omega arith) (omega arith)) (λ j d le lt. pass (suc j) d (omega arith) (omega arith))

  -- what passes stands before a place
  filter_before : (xs : List X) (at : ℕ) → ((j : ℕ) (d : X) → j < at → j < length xs → p (get_or xs j d) ≡ true) → ((j : ℕ) (d : X) → at ≤ j → j < length xs → p (get_or xs j d) ≡ false)
      → filter p xs ≡ take at xs
  filter_before [] zero pass fail = refl
  filter_before [] (suc at) pass fail = refl
  filter_before (x ∷ xs) zero pass fail =
      ap (λ b. cond b (x ∷ filter p xs) (filter p xs)) (fail 0 x (omega arith) (omega arith))
      ∙ filter_before xs zero (λ j d lt. absurd (omega arith)) (λ j d le lt. fail (suc j) d (omega arith) (omega arith))
  filter_before (x ∷ xs) (suc at) pass fail =
      ap (λ b. cond b (x ∷ filter p xs) (filter p xs)) (pass 0 x (omega arith) (omega arith))
      ∙ ap (λ l. x ∷ l) (filter_before xs at (λ j d lt le. pass (suc j) d (omega arith) (omega arith)) (λ j d le lt. fail (suc j) d (omega arith) (omega arith)))

-- a filter by two tests filters by one after the other
filter_both : {X : Type 0} (p q : X → Bool) (xs : List X) → filter (λ x. p x && q x) xs ≡ filter q (filter p xs)
filter_both p q [] = refl
filter_both {X} p q (x ∷ xs) = go (filter_both p q xs) (p x)
  where
    go : filter (λ x. p x && q x) xs ≡ filter q (filter p xs) → (b : Bool) → cond (b && q x) (x ∷ filter (λ x. p x && q x) xs) (filter (λ x. p x && q x) xs) ≡ filter q (cond b (x ∷ filter p xs) (filter p xs))
    go rest true = ap (λ l. cond (q x) (x ∷ l) l) rest
    go rest false = rest

-- what passes both tests stands between the places
pub filter_between : {X : Type 0} (p q : X → Bool) (xs : List X) (start end : ℕ) → IsPartitionPoint (λ x. not (p x) ≡ true) (λ x. not (p x) ≡ false) xs start → IsPartitionPoint (λ x. q x ≡ true) (λ x. q x ≡ false) xs end
    → filter (λ x. p x && q x) xs ≡ take (end - start) (drop start xs)
filter_between {X} p q xs start end low high =
    filter_both p q xs
    ∙ (ap (filter q) (filter_behind p xs start (λ j d lt in_range. not-true _ (low.0 j d (omega arith) lt)) (λ j d le lt. not-false _ (low.1 j d le lt)))
    ∙ filter_before q (drop start xs) (end - start)
    (λ j d lt in_range. rw (get_or-drop start xs j d) (high.0 (start + j) d (omega arith) (omega arith)))
    (λ j d le lt. rw (get_or-drop start xs j d) (high.1 (start + j) d (omega arith) (omega (arith, length-drop start xs)))))

-- ---- keys that rise pass a bound in one go
