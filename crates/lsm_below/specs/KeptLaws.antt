-- Lists as sources of a compaction: laws for proofs of the crates above, which have sources of their own types.
use Rattle.std.proofs.Common.{◌≡◌, ℕ, Bool, true, false, List, [], ◌∷◌, ◌++◌, map, flat_map, refl, sym, ap, ◌∙◌, subst}
use Rattle.std.specs.List.{AllByRecursion}
use Rattle.std.specs.List.Sorted.{IsPermutation}
use Rattle.std.specs.Ordering.{is_le}
use Rattle.std.specs.declared.cmp.Ordering.TheVariants.{Less}
use Rattle.std.proofs.lemmas.List.Concat.{flat_map-cons}
use Rattle.std.proofs.lemmas.List.Elements.{recursion_from_All, All-weaker}
use Rattle.lsm_below.specs.Keys.{Bytes}
use Rattle.lsm_below.specs.Entries.{Entry, entry_cmp, stack, keep, IsOrdered, IsFalling}
use Rattle.lsm_below.specs.Sorted.{Rises}
use Rattle.lsm_below.specs.Streams.{Rest, IsInOrder, KeepsOfMerge}
use Rattle.lsm_below.specs.Slots.{rest_of}
use Rattle.lsm_below.specs.Kept.{IsKeptOf}

-- what rises is in order
pub ascends : (es : List Entry) → Rises entry_cmp es → IsInOrder es
ascends [] h = tt
ascends (e ∷ es) h = (recursion_from_All (λ f. is_le (entry_cmp e f) ≡ true) es (All-weaker (λ f. entry_cmp e f ≡ Less) (λ f. is_le (entry_cmp e f) ≡ true) (λ f l. ap is_le l) es h.0), ascends es h.1)

-- sources that stand at the beginning of lists
module _ {X : Type 0} (r : X → Rest) where
  pub in_order : (xs : List X) (lists : List (List Entry)) → map r xs ≡ map (λ es. rest_of false es) lists → AllByRecursion IsInOrder lists → AllByRecursion (λ x. IsInOrder (r x).entries) xs
  in_order [] lists e h = tt
  in_order (x ∷ xs) [] e h = absurd (cc e)
  in_order (x ∷ xs) (l ∷ lists) e h =
      let first : r x ≡ rest_of false l = cc in
      let more : map r xs ≡ map (λ es. rest_of false es) lists = cc in
      (subst (λ s. IsInOrder s.entries) (sym first) h.0, in_order xs lists more h.1)

  same_lists : (xs : List X) (lists : List (List Entry)) → map r xs ≡ map (λ es. rest_of false es) lists → map (λ x. (r x).entries) xs ≡ lists
  same_lists [] [] e = refl
  same_lists [] (l ∷ lists) e = cc
  same_lists (x ∷ xs) [] e = cc
  same_lists (x ∷ xs) (l ∷ lists) e =
      let first : r x ≡ rest_of false l = cc in
      let more : map r xs ≡ map (λ es. rest_of false es) lists = cc in
      ap (λ s. s.entries ∷ map (λ x. (r x).entries) xs) first ∙ ap (λ ls. l ∷ ls) (same_lists xs lists more)

  flat_same : (f : List Entry → List Entry) (xs : List X) → flat_map (λ x. f (r x).entries) xs ≡ flat_map f (map (λ x. (r x).entries) xs)
  flat_same f [] = refl
  flat_same f (x ∷ xs) = flat_map-cons (λ (y : X). f (r y).entries) x xs ∙ ap (λ es. f (r x).entries ++ es) (flat_same f xs) ∙ sym (flat_map-cons f (r x).entries (map (λ y. (r y).entries) xs))

  pub kept_of : (xs : List X) (lists : List (List Entry)) (w : ℕ) (evict : Bool) (out : List Entry) → map r xs ≡ map (λ es. rest_of false es) lists
      → KeepsOfMerge w evict (map (λ x. (r x).entries) xs) out
      → (IsOrdered (map (λ x. (r x).entries) xs) → (key : Bytes) → stack key out ≡ keep w evict (stack key (flat_map (λ x. (r x).entries) xs)))
      → ((key : Bytes) (es : List Entry) → IsFalling es → IsPermutation (flat_map (λ x. stack key (r x).entries) xs) es → stack key out ≡ keep w evict es)
      → IsKeptOf lists w evict out
  kept_of xs lists w evict out e merged kept any =
      let same = same_lists xs lists e in
      record {
        merged = subst (λ ls. KeepsOfMerge w evict ls out) same merged;
        ordered = λ order key. kept (subst IsOrdered (sym same) order) key ∙ ap (λ es. keep w evict (stack key es)) (flat_same (λ es. es) xs ∙ ap (flat_map (λ es. es)) same);
        in_any_order = λ key es falls perm. any key es falls (subst (λ l. IsPermutation l es) (sym (flat_same (stack key) xs ∙ ap (flat_map (stack key)) same)) perm);
      }
