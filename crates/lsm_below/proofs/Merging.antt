-- What a merge of lists gives.
use Rattle.std.proofs.Common.{◌≡◌, ℕ, zero, suc, ◌<◌, Bool, true, false, cond, List, [], ◌∷◌, ◌++◌, Option, Some, None, length, get_or, set, flat_map, filter, map, refl, ap, ◌∙◌, arith}
use Rattle.std.specs.List.{AllByRecursion}
use Rattle.std.specs.List.Sorted.{IsPermutation}
use Rattle.std.specs.Cmp.{IsTotalOrder}
use Rattle.std.specs.declared.cmp.Ordering.{Ordering}
use Rattle.std.specs.Ordering.{is_le, is_lt}
use Rattle.std.proofs.lemmas.List.Sorted.{IsPermutation-refl, IsPermutation-cons, IsPermutation-middle, IsPermutation-trans, IsPermutation-append_right}
use Rattle.lsm_below.specs.declared.value.InternalValue.{InternalValue}
use Rattle.lsm_below.specs.Streams.{Ascends, IsInOrder, Merges}
use Rattle.lsm_below.specs.Slots.{place_front, merge, merged_by, merged, is_before, head_before}
use Rattle.lsm_below.specs.Orders.{le_of_lt, le_of_not_lt}
use Rattle.lsm_below.proofs.Orders.{entry_total, below_all}

abbrev pub OnFirst : {X : Type 0} → (X → Type 0) → List X → Type 0
OnFirst P [] = Unit {0}
OnFirst P (x ∷ xs) = P x

abbrev pub first_item : {X : Type 0} → List X → Option X
first_item [] = None
first_item (x ∷ xs) = Some x

module _ {X : Type 0} (lt : X → X → Bool) where
  front_first : (x : X) (next : List X → List X) (ys : List X) → OnFirst (λ y. lt y x ≡ false) ys → place_front lt x next ys ≡ x ∷ next ys
  front_first x next [] h = refl
  front_first x next (y ∷ ys) h = ap (λ b. cond b (y ∷ place_front lt x next ys) (x ∷ next (y ∷ ys))) h

  first_front : (P : X → Type 0) (x : X) (next : List X → List X) (ys : List X) → P x → OnFirst P ys → OnFirst P (place_front lt x next ys)
  first_front P x next [] p h = p
  first_front P x next (y ∷ ys) p h = elim (lt y x) as (λ b. OnFirst P (cond b (y ∷ place_front lt x next ys) (x ∷ next (y ∷ ys)))) [ true ↦ h | false ↦ p ]

  first_merge : (P : X → Type 0) (xs ys : List X) → OnFirst P xs → OnFirst P ys → OnFirst P (merge lt xs ys)
  first_merge P [] ys h k = k
  first_merge P (x ∷ xs) ys h k = first_front P x (merge lt xs) ys h k

  first_merged : (P : X → Type 0) (ls : List (List X)) → ((k : ℕ) → k < length ls → OnFirst P (get_or ls k [])) → OnFirst P (merged_by lt ls)
  first_merged P [] h = tt
  first_merged P (l ∷ ls) h = first_merge P l (merged_by lt ls) (h 0 (omega arith)) (first_merged P ls (λ k p. h (suc k) (omega arith)))

  merged_none : (ls : List (List X)) → ((k : ℕ) → k < length ls → get_or ls k [] ≡ []) → merged_by lt ls ≡ []
  merged_none [] h = refl
  merged_none (l ∷ ls) h = ap (λ l. merge lt l (merged_by lt ls)) (h 0 (omega arith)) ∙ merged_none ls (λ k p. h (suc k) (omega arith))

  -- each as often as it came
  front_same : (x : X) (xs : List X) → ((ys : List X) → IsPermutation (xs ++ ys) (merge lt xs ys)) → (ys : List X) → IsPermutation (x ∷ (xs ++ ys)) (place_front lt x (merge lt xs) ys)
  front_same x xs next [] = IsPermutation-cons x (xs ++ []) (merge lt xs []) (next [])
  front_same x xs next (y ∷ ys) = elim (lt y x) as (λ b. IsPermutation (x ∷ (xs ++ y ∷ ys)) (cond b (y ∷ place_front lt x (merge lt xs) ys) (x ∷ merge lt xs (y ∷ ys)))) [
    | true ↦ IsPermutation-trans (x ∷ (xs ++ y ∷ ys)) (y ∷ (x ∷ (xs ++ ys))) (y ∷ place_front lt x (merge lt xs) ys) (IsPermutation-middle (x ∷ xs) y ys)
        (IsPermutation-cons y (x ∷ (xs ++ ys)) (place_front lt x (merge lt xs) ys) (front_same x xs next ys))
    | false ↦ IsPermutation-cons x (xs ++ y ∷ ys) (merge lt xs (y ∷ ys)) (next (y ∷ ys))
  ]

  pub merge_same : (xs ys : List X) → IsPermutation (xs ++ ys) (merge lt xs ys)
  merge_same [] ys = IsPermutation-refl ys
  merge_same (x ∷ xs) ys = front_same x xs (merge_same xs) ys

  pub merged_same : (ls : List (List X)) → IsPermutation (flat_map (λ l. l) ls) (merged_by lt ls)
  merged_same [] = IsPermutation-refl []
  merged_same (l ∷ ls) =
      IsPermutation-trans (l ++ flat_map (λ l. l) ls) (l ++ merged_by lt ls) (merge lt l (merged_by lt ls)) (IsPermutation-append_right l (flat_map (λ l. l) ls) (merged_by lt ls) (merged_same ls)) (merge_same l (merged_by lt ls))

  -- of what a test passes too
  front_same_filtered : (t : X → Bool) (x : X) (xs : List X) → ((ys : List X) → IsPermutation (filter t xs ++ filter t ys) (filter t (merge lt xs ys))) → (ys : List X) → IsPermutation (filter t (x ∷ xs) ++ filter t ys) (filter t (place_front lt x (merge lt xs) ys))
  front_same_filtered t x xs next [] = elim (t x) as (λ b. IsPermutation (cond b (x ∷ filter t xs) (filter t xs) ++ []) (cond b (x ∷ filter t (merge lt xs [])) (filter t (merge lt xs [])))) [
    | true ↦ IsPermutation-cons x (filter t xs ++ []) (filter t (merge lt xs [])) (next [])
    | false ↦ next []
  ]
  front_same_filtered t x xs next (y ∷ ys) = elim (lt y x) as (λ b. IsPermutation (filter t (x ∷ xs) ++ filter t (y ∷ ys)) (filter t (cond b (y ∷ place_front lt x (merge lt xs) ys) (x ∷ merge lt xs (y ∷ ys))))) [
    | true ↦ elim (t y) as (λ b. IsPermutation (filter t (x ∷ xs) ++ cond b (y ∷ filter t ys) (filter t ys)) (cond b (y ∷ filter t (place_front lt x (merge lt xs) ys)) (filter t (place_front lt x (merge lt xs) ys)))) [
      | true ↦ IsPermutation-trans (filter t (x ∷ xs) ++ y ∷ filter t ys) (y ∷ (filter t (x ∷ xs) ++ filter t ys)) (y ∷ filter t (place_front lt x (merge lt xs) ys)) (IsPermutation-middle (filter t (x ∷ xs)) y (filter t ys))
          (IsPermutation-cons y (filter t (x ∷ xs) ++ filter t ys) (filter t (place_front lt x (merge lt xs) ys)) (front_same_filtered t x xs next ys))
      | false ↦ front_same_filtered t x xs next ys
    ]
    | false ↦ elim (t x) as (λ b. IsPermutation (cond b (x ∷ filter t xs) (filter t xs) ++ filter t (y ∷ ys)) (cond b (x ∷ filter t (merge lt xs (y ∷ ys))) (filter t (merge lt xs (y ∷ ys))))) [
      | true ↦ IsPermutation-cons x (filter t xs ++ filter t (y ∷ ys)) (filter t (merge lt xs (y ∷ ys))) (next (y ∷ ys))
      | false ↦ next (y ∷ ys)
    ]
  ]

  merge_same_filtered : (t : X → Bool) (xs ys : List X) → IsPermutation (filter t xs ++ filter t ys) (filter t (merge lt xs ys))
  merge_same_filtered t [] ys = IsPermutation-refl (filter t ys)
  merge_same_filtered t (x ∷ xs) ys = front_same_filtered t x xs (merge_same_filtered t xs) ys

  pub merged_same_filtered : (t : X → Bool) (ls : List (List X)) → IsPermutation (flat_map (λ l. l) (map (filter t) ls)) (filter t (merged_by lt ls))
  merged_same_filtered t [] = IsPermutation-refl []
  merged_same_filtered t (l ∷ ls) =
      IsPermutation-trans (filter t l ++ flat_map (λ l. l) (map (filter t) ls)) (filter t l ++ filter t (merged_by lt ls)) (filter t (merge lt l (merged_by lt ls)))
      (IsPermutation-append_right (filter t l) (flat_map (λ l. l) (map (filter t) ls)) (filter t (merged_by lt ls)) (merged_same_filtered t ls)) (merge_same_filtered t l (merged_by lt ls))

  each_front : (P : X → Type 0) (x : X) (next : List X → List X) → P x → ((ys : List X) → AllByRecursion P ys → AllByRecursion P (next ys)) → (ys : List X) → AllByRecursion P ys → AllByRecursion P (place_front lt x next ys)
  each_front P x next p h [] k = (p, h [] tt)
  each_front P x next p h (y ∷ ys) k = elim (lt y x) as (λ b. AllByRecursion P (cond b (y ∷ place_front lt x next ys) (x ∷ next (y ∷ ys)))) [
    | true ↦ (k.0, each_front P x next p h ys k.1)
    | false ↦ (p, h (y ∷ ys) k)
  ]

  pub each_merge : (P : X → Type 0) (xs ys : List X) → AllByRecursion P xs → AllByRecursion P ys → AllByRecursion P (merge lt xs ys)
  each_merge P [] ys h k = k
  each_merge P (x ∷ xs) ys h k = each_front P x (merge lt xs) h.0 (λ ys k. each_merge P xs ys h.1 k) ys k

-- a merge of lists in order is in order
module _ {X : Type 0} {R : X → X → Ordering} (o : IsTotalOrder R) where
  ascends_front : (x : X) (xs : List X) → AllByRecursion (λ z. is_le (R x z) ≡ true) xs → ((ys : List X) → Ascends R ys → Ascends R (merge (λ x y. is_lt (R x y)) xs ys)) → (ys : List X) → Ascends R ys
      → Ascends R (place_front (λ x y. is_lt (R x y)) x (merge (λ x y. is_lt (R x y)) xs) ys)
  ascends_front x xs h next [] k = (each_merge (λ x y. is_lt (R x y)) (λ z. is_le (R x z) ≡ true) xs [] h tt, next [] tt)
  ascends_front x xs h next (y ∷ ys) k =
      elim (is_lt (R y x)) as (λ b. is_lt (R y x) ≡ b → Ascends R (cond b (y ∷ place_front (λ x y. is_lt (R x y)) x (merge (λ x y. is_lt (R x y)) xs) ys) (x ∷ merge (λ x y. is_lt (R x y)) xs (y ∷ ys)))) [
        | true ↦ λ q.
            let le : is_le (R y x) ≡ true = le_of_lt o y x q in
            (each_merge (λ x y. is_lt (R x y)) (λ z. is_le (R y z) ≡ true) (x ∷ xs) ys (le, below_all o y x xs le h) k.0, ascends_front x xs h next ys k.1)
        | false ↦ λ q.
            let le : is_le (R x y) ≡ true = le_of_not_lt o x y q in
            (each_merge (λ x y. is_lt (R x y)) (λ z. is_le (R x z) ≡ true) xs (y ∷ ys) h (le, below_all o x y ys le k.0), next (y ∷ ys) k)
      ] refl

  pub ascends_merge : (xs ys : List X) → Ascends R xs → Ascends R ys → Ascends R (merge (λ x y. is_lt (R x y)) xs ys)
  ascends_merge [] ys h k = k
  ascends_merge (x ∷ xs) ys h k = ascends_front x xs h.0 (λ ys k. ascends_merge xs ys h.1 k) ys k

  pub ascends_merged : (ls : List (List X)) → AllByRecursion (Ascends R) ls → Ascends R (merged_by (λ x y. is_lt (R x y)) ls)
  ascends_merged [] h = tt
  ascends_merged (l ∷ ls) h = ascends_merge l (merged_by (λ x y. is_lt (R x y)) ls) h.0 (ascends_merged ls h.1)

pub merges_merged : (ls : List (List InternalValue)) → AllByRecursion IsInOrder ls → Merges ls (merged ls)
merges_merged ls h = record { same = merged_same is_before ls; in_order = ascends_merged entry_total ls h }

-- the list with the least head, the first of those that tie, gives the first of the merge
no_head : (g : Option InternalValue) (l : List InternalValue) → head_before (first_item l) None ≡ false → l ≡ []
no_head g [] h = refl
no_head g (x ∷ l) h = absurd (cc h)

not_below : (e : InternalValue) (l : List InternalValue) → head_before (first_item l) (Some e) ≡ false → OnFirst (λ y. is_before y e ≡ false) l
not_below e [] h = tt
not_below e (x ∷ l) h = h

one_above : (e : InternalValue) (l m : List InternalValue) → head_before (Some e) (first_item l) ≡ true → merge is_before l (e ∷ m) ≡ e ∷ merge is_before l m
one_above e [] m h = refl
one_above e (x ∷ l) m h = ap (λ b. cond b (e ∷ place_front is_before x (merge is_before l) m) (x ∷ merge is_before l (e ∷ m))) h

pub popped : (ls : List (List InternalValue)) (b : ℕ) (e : InternalValue) (es : List InternalValue) → b < length ls → get_or ls b [] ≡ e ∷ es
    → ((k : ℕ) → k < length ls → head_before (first_item (get_or ls k [])) (Some e) ≡ false) → ((k : ℕ) → k < b → head_before (Some e) (first_item (get_or ls k [])) ≡ true)
    → merged ls ≡ e ∷ merged (set ls b es)
popped [] b e es lt is none before = absurd (omega arith)
popped (l ∷ ls) zero e es lt is none before =
    ap (λ l. merge is_before l (merged ls)) is
    ∙ front_first is_before e (merge is_before es) (merged ls) (first_merged is_before (λ y. is_before y e ≡ false) ls (λ k p. not_below e (get_or ls k []) (none (suc k) (omega arith))))
popped (l ∷ ls) (suc b) e es lt is none before =
    ap (λ m. merge is_before l m) (popped ls b e es (omega arith) is (λ k p. none (suc k) (omega arith)) (λ k p. before (suc k) (omega arith)))
    ∙ one_above e l (merged (set ls b es)) (before 0 (omega arith))

pub nothing_left : (ls : List (List InternalValue)) → ((k : ℕ) → k < length ls → head_before (first_item (get_or ls k [])) None ≡ false) → merged ls ≡ []
nothing_left ls h = merged_none is_before ls (λ k p. no_head None (get_or ls k []) (h k p))
