-- Slots whose indexes are a heap, but for the first places.
use Rattle.std.proofs.Common.{◌≡◌, ◌≢◌, ℕ, zero, suc, ◌+◌, ◌-◌, ◌<◌, ◌≤◌, ltb, eqb, Bool, true, false, not, cond, List, [], ◌∷◌, ◌||◌, Option, Some, None, MatchOption, is_some, map, length, get_or, set, take, ◌++◌, refl, sym, ap, ◌∙◌, arith}
use Rattle.std.specs.List.{All, AllByRecursion, IsDistinct, IsFirstBest, list_any, range_with_len}
use Rattle.std.specs.List.Sorted.{IsPermutation}
use Rattle.std.proofs.Math.Seq.{take-append_seam}
use Rattle.std.proofs.lemmas.Bool.{eqb-true, eqb-false, eq-eqb, ne_eqb, ltb-true, ltb-false}
use Rattle.std.proofs.lemmas.List.{get_or-map, get_or-set_other, get_or-set_same, length-map, length-set}
use Rattle.std.proofs.lemmas.List.FromFn.{length-range_with_len, get_or-range_with_len}
use Rattle.std.proofs.lemmas.List.Sorted.{All-permutation, length_permutation, list_any-IsPermutation}
use Rattle.std.proofs.lemmas.Map.Keys.{IsDistinct-IsPermutation}
use Rattle.lsm_below.specs.declared.value.InternalValue.{InternalValue}
use Rattle.lsm_below.specs.Each.{each_at}
use Rattle.lsm_below.specs.Slots.{merged, head_before, slot_before, all_of, IsHeapFrom, IsQueue}
use Rattle.lsm_below.proofs.Merging.{first_item, nothing_left}
use Rattle.lsm_below.proofs.Taking.{heads_order}
use Rattle.lsm_below.proofs.Heaps.{by_same, not_before, tie_before, slot_order, top_first}

-- ---- each index once

eqb_flips : (a b : ℕ) → eqb a b ≡ eqb b a
eqb_flips a b = by_same a b (λ e. eq-eqb a b e ∙ sym (eq-eqb b a (sym e))) (λ d. ne_eqb a b d ∙ sym (ne_eqb b a (λ e. d (sym e))))

pub once_permuted : (n : ℕ) (xs ys : List ℕ) → IsPermutation xs ys → IsDistinct eqb xs × All (λ i. i < n) xs → IsDistinct eqb ys × All (λ i. i < n) ys
once_permuted n xs ys same h = (IsDistinct-IsPermutation eqb eqb_flips xs ys same h.0, All-permutation (λ i. i < n) xs ys same h.1)

pub below_left : (n x : ℕ) (xs rest : List ℕ) → IsPermutation xs (x ∷ rest) → All (λ i. i < n) xs → All (λ i. i < n) rest
below_left n x xs rest same h k d lt = All-permutation (λ i. i < n) xs (x ∷ rest) same h (suc k) d (omega arith)

not_in_range : (i a n : ℕ) → i < a → AllByRecursion (λ j. eqb i j ≡ false) (range_with_len a n)
not_in_range i a zero lt = tt
not_in_range i a (suc n) lt = (ne_eqb i a (λ e. absurd (omega arith)), not_in_range i (a + 1) n (omega arith))

range_distinct : (a n : ℕ) → IsDistinct eqb (range_with_len a n)
unfolding IsDistinct
range_distinct a zero = tt
range_distinct a (suc n) = (not_in_range a (a + 1) n (omega arith), range_distinct (a + 1) n)

range_below : (n : ℕ) → All (λ i. i < n) (range_with_len 0 n)
range_below n k d lt = let l : k < n = omega (arith, length-range_with_len 0 n) in rw (get_or-range_with_len 0 n k d l) (omega arith)

in_range : (i a n : ℕ) → a ≤ i → i < a + n → list_any (eqb i) (range_with_len a n) ≡ true
in_range i a zero l m = absurd (omega arith)
in_range i a (suc n) l m = by_same i a
    (λ e. ap (λ b. b || list_any (eqb i) (range_with_len (a + 1) n)) (eq-eqb i a e))
    (λ d. ap (λ b. b || list_any (eqb i) (range_with_len (a + 1) n)) (ne_eqb i a d) ∙ in_range i (a + 1) n (omega arith) (omega arith))

true_not_false : true ≡ false → ⊥
true_not_false e = cc e

list_any_at : (xs : List ℕ) (p : ℕ) → p < length xs → list_any (eqb (get_or xs p 0)) xs ≡ true
list_any_at [] p l = absurd (omega arith)
list_any_at (x ∷ xs) zero l = ap (λ b. b || list_any (eqb x) xs) (eq-eqb x x refl)
list_any_at (x ∷ xs) (suc p) l = go (eqb (get_or xs p 0) x) (list_any_at xs p (omega arith))
  where
    go : (s : Bool) → list_any (eqb (get_or xs p 0)) xs ≡ true → (s || list_any (eqb (get_or xs p 0)) xs) ≡ true
    go true h = refl
    go false h = h

none_of : (i : ℕ) (xs : List ℕ) → length xs ≡ 0 → list_any (eqb i) xs ≡ false
none_of i [] h = refl
none_of i (x ∷ xs) h = absurd (omega arith)

apart : (xs : List ℕ) (p q : ℕ) → IsDistinct eqb xs → p < q → q < length xs → get_or xs p 0 ≢ get_or xs q 0
unfolding IsDistinct
apart [] p q h l m e = omega arith
apart (x ∷ xs) p zero h l m e = omega arith
apart (x ∷ xs) zero (suc q) h l m e = eqb-false x (get_or xs q 0) (each_at (λ y. eqb x y ≡ false) xs q 0 h.0 (omega arith)) e
apart (x ∷ xs) (suc p) (suc q) h l m e = apart xs p q h.1 (omega arith) (omega arith) e

place_in : (i : ℕ) (xs : List ℕ) → list_any (eqb i) xs ≡ true → (p : ℕ) × (p < length xs) × (get_or xs p 0 ≡ i)
place_in i [] h = absurd (cc h)
place_in i (x ∷ xs) h = go (eqb i x) refl (place_in i xs) h
  where
    go : (s : Bool) → eqb i x ≡ s → (list_any (eqb i) xs ≡ true → (p : ℕ) × (p < length xs) × (get_or xs p 0 ≡ i)) → (s || list_any (eqb i) xs) ≡ true
        → (p : ℕ) × (p < length (x ∷ xs)) × (get_or (x ∷ xs) p 0 ≡ i)
    go true e next h = (0, omega arith, sym (eqb-true i x e))
    go false e next h = let r = next h in (suc r.0, omega (arith, r.1), r.2)

-- ---- a heap where one head changes

other_head : (heads : List (Option InternalValue)) (i a : ℕ) (h : Option InternalValue) → a ≢ i → get_or (set heads i h) a None ≡ get_or heads a None
other_head heads i a h d = get_or-set_other heads i a h None d

slots_apart : (heads : List (Option InternalValue)) (i a b : ℕ) (h : Option InternalValue) → a ≢ i → b ≢ i → slot_before (set heads i h) a b ≡ slot_before heads a b
slots_apart heads i a b h d e =
    ap (λ x. cond (ltb a b) (not (head_before (get_or (set heads i h) b None) x)) (head_before x (get_or (set heads i h) b None))) (other_head heads i a h d)
    ∙ ap (λ x. cond (ltb a b) (not (head_before x (get_or heads a None))) (head_before (get_or heads a None) x)) (other_head heads i b h e)

pub heap_apart : (heads : List (Option InternalValue)) (order : List ℕ) (place low : ℕ) (h : Option InternalValue) → IsDistinct eqb order → place < low → IsHeapFrom (slot_before heads) low order → IsHeapFrom (slot_before (set heads (get_or order place 0) h)) low order
heap_apart heads order place low h once lt heap p k l a b m =
    slots_apart heads (get_or order place 0) (get_or order k 0) (get_or order p 0) h
    (λ e. apart order place k once (omega arith) m (sym e)) (λ e. apart order place p once (omega arith) (omega arith) (sym e))
    ∙ heap p k l a b m

-- ---- the queue

-- a queue but that the index at one place isn't before those below it yet
abbrev pub IsAsked : List (Option InternalValue) → List (List InternalValue) → List ℕ → ℕ → Type 0
IsAsked heads lists order place =
    (IsDistinct eqb order × All (λ i. i < length heads) order)
    × (place ≤ length order)
    × IsHeapFrom (slot_before heads) (place + 1) order
    × ((p : ℕ) → place ≤ p → p < length order → is_some (get_or heads (get_or order p 0) None) ≡ true)
    × ((i : ℕ) → i < length heads → list_any (eqb i) order ≡ false → length (get_or lists i []) ≡ 0)

-- the head was there, or the source has given it
pub asked_found : (heads : List (Option InternalValue)) (lists : List (List InternalValue)) (order : List ℕ) (place : ℕ) (h : Option InternalValue)
    → IsQueue heads lists order (place + 1) → is_some h ≡ true → IsAsked (set heads (get_or order place 0) h) lists order place
asked_found heads lists order place h q there =
    let i = get_or order place 0 in
    let len : length (set heads i h) ≡ length heads = length-set heads i h in
    let fits = q.1 in (
      rw len q.0,
      omega arith,
      heap_apart heads order place (place + 1) h q.0.0 (omega arith) q.2,
      λ p l m. by_same p place
          (λ e. ap (λ n. is_some (get_or (set heads i h) (get_or order n 0) None)) e ∙ ap is_some (get_or-set_same heads i h None (q.0.1 place 0 (omega arith))) ∙ there)
          (λ d. ap is_some (other_head heads i (get_or order p 0) h (λ e. apart order place p q.0.0 (omega arith) m (sym e))) ∙ q.3 p (omega arith) m),
      λ j lt none. q.4 j (omega arith) none,
    )

-- the source has ended, and its index has left
pub asked_ended : (heads : List (Option InternalValue)) (lists : List (List InternalValue)) (order rest : List ℕ) (place : ℕ) (h : Option InternalValue)
    → IsQueue heads lists order (place + 1)
    → length (get_or lists (get_or order place 0) []) ≡ 0
    → IsPermutation order (get_or order place 0 ∷ rest)
    → length rest + 1 ≡ length order
    → (place + 1 < length order → get_or rest place 0 ≡ get_or order (length order - 1) 0)
    → ((k : ℕ) → k ≢ place → k + 1 < length order → get_or rest k 0 ≡ get_or order k 0)
    → IsAsked (set heads (get_or order place 0) h) lists rest place
unfolding IsDistinct
asked_ended heads lists order rest place h q nothing same long here there =
    let i = get_or order place 0 in
    let len : length (set heads i h) ≡ length heads = length-set heads i h in
    let once = once_permuted (length heads) order (i ∷ rest) same q.0 in
    let fits = q.1 in (
      rw len (once.0.1, below_left (length heads) i order rest same q.0.1),
      omega arith,
      λ p k l a b m.
          let e : get_or rest p 0 ≡ get_or order p 0 = there p (omega arith) (omega arith) in
          let f : get_or rest k 0 ≡ get_or order k 0 = there k (omega arith) (omega arith) in
          rw (e, f) (heap_apart heads order place (place + 1) h q.0.0 (omega arith) q.2 p k l a b (omega arith)),
      λ p l m. by_same p place
          (λ e.
          let f : get_or rest p 0 ≡ get_or order (length order - 1) 0 = ap (λ n. get_or rest n 0) e ∙ here (omega arith) in
          rw f (ap is_some (other_head heads i (get_or order (length order - 1) 0) h (λ u. apart order place (length order - 1) q.0.0 (omega arith) (omega arith) (sym u))) ∙ q.3 (length order - 1) (omega arith) (omega arith)))
          (λ d.
          let f : get_or rest p 0 ≡ get_or order p 0 = there p d (omega arith) in
          rw f (ap is_some (other_head heads i (get_or order p 0) h (λ u. apart order place p q.0.0 (omega arith) (omega arith) (sym u))) ∙ q.3 p (omega arith) (omega arith))),
      λ j lt none. by_same j i
          (λ e. ap (λ n. length (get_or lists n [])) e ∙ nothing)
          (λ d. q.4 j (omega arith) (list_any-IsPermutation (eqb j) order (i ∷ rest) same ∙ ap (λ b. b || list_any (eqb j) rest) (ne_eqb j i d) ∙ none)),
    )

pub nothing_left_in : (head : Option InternalValue) (es : List InternalValue) → is_some head ≡ false → MatchOption head (es ≡ []) (λ _. Unit {0}) → length (all_of head es) ≡ 0
nothing_left_in None es h f = ap length f
nothing_left_in (Some e) es h f = absurd (cc h)

-- the index has sunk
pub queue_sunk : (heads : List (Option InternalValue)) (lists : List (List InternalValue)) (order sunk : List ℕ) (place : ℕ)
    → IsAsked heads lists order place
    → IsPermutation order sunk
    → ((p : ℕ) → p < place → get_or sunk p 0 ≡ get_or order p 0)
    → (IsHeapFrom (slot_before heads) (place + 1) order → IsHeapFrom (slot_before heads) place sunk)
    → IsQueue heads lists sunk place
queue_sunk heads lists order sunk place q same above heap =
    let long = length_permutation order sunk same in
    let once = once_permuted (length heads) order sunk same q.0 in
    let fits = q.1 in (
      once,
      omega arith,
      heap q.2,
      λ p l m.
          let r = place_in (get_or sunk p 0) order (list_any-IsPermutation (eqb (get_or sunk p 0)) order sunk same ∙ list_any_at sunk p m) in
          ap (λ n. is_some (get_or heads n None)) (sym r.2) ∙ q.3 r.0 (later p r.0 once.0 l m r.2) r.1,
      λ j lt none. q.4 j lt (list_any-IsPermutation (eqb j) order sunk same ∙ none),
    )
  where
    later : (p r : ℕ) → IsDistinct eqb sunk → place ≤ p → p < length sunk → get_or order r 0 ≡ get_or sunk p 0 → place ≤ r
    later p r once l m e = go (ltb r place) refl
      where
        go : (s : Bool) → ltb r place ≡ s → place ≤ r
        go true t = let u = ltb-true r place t in absurd (apart sunk r p once (omega arith) m (above r u ∙ e))
        go false t = ltb-false r place t

-- the head at the top is taken
pub queue_taken : (heads : List (Option InternalValue)) (lists left : List (List InternalValue)) (order : List ℕ)
    → 0 < length order
    → IsQueue heads lists order 0
    → ((j : ℕ) → j ≢ get_or order 0 0 → get_or left j [] ≡ get_or lists j [])
    → IsQueue (set heads (get_or order 0 0) None) left order 1
queue_taken heads lists left order some q others =
    let i = get_or order 0 0 in
    let len : length (set heads i None) ≡ length heads = length-set heads i None in (
      rw len q.0,
      omega arith,
      heap_apart heads order 0 1 None q.0.0 (omega arith) (λ p k l a b m. q.2 p k (omega arith) a b m),
      λ p l m. ap is_some (other_head heads i (get_or order p 0) None (λ e. apart order 0 p q.0.0 (omega arith) m (sym e))) ∙ q.3 p (omega arith) m,
      λ j lt none. ap length (others j (λ e. true_not_false (sym (list_any_at order 0 some) ∙ ap (λ n. list_any (eqb n) order) (sym e) ∙ none))) ∙ q.4 j (omega arith) none,
    )

-- before the first entry nothing was asked
pub queue_unasked : (heads : List (Option InternalValue)) (lists : List (List InternalValue)) (order : List ℕ) → IsPermutation (range_with_len 0 (length heads)) order → IsQueue heads lists order (length order)
queue_unasked heads lists order same =
    let n = length heads in (
      once_permuted n (range_with_len 0 n) order same (range_distinct 0 n, range_below n),
      omega arith,
      λ p k l a b m. absurd (omega arith),
      λ p l m. absurd (omega arith),
      λ j lt none. absurd (true_not_false (sym (in_range j 0 n (omega arith) (omega arith)) ∙ list_any-IsPermutation (eqb j) (range_with_len 0 n) order same ∙ none)),
    )

-- a head that isn't there stands before none, and after each that is
none_last : (h g : Option InternalValue) → h ≡ None → head_before h g ≡ false
none_last h g e = ap (λ x. head_before x g) e

some_first : (h g : Option InternalValue) → is_some h ≡ true → g ≡ None → head_before h g ≡ true
some_first None g h e = absurd (cc h)
some_first (Some x) g h e = ap (head_before (Some x)) e

no_head : (head : Option InternalValue) (es : List InternalValue) → length (all_of head es) ≡ 0 → (head ≡ None) × (es ≡ [])
no_head None [] h = (refl, refl)
no_head None (e ∷ es) h = absurd (omega arith)
no_head (Some e) es h = absurd (omega arith)

no_first : (es : List InternalValue) → length es ≡ 0 → head_before (first_item es) None ≡ false
no_first [] h = refl
no_first (e ∷ es) h = absurd (omega arith)

first_head : (head : Option InternalValue) (es : List InternalValue) → is_some head ≡ true → head ≡ first_item (all_of head es)
first_head None es h = absurd (cc h)
first_head (Some e) es h = refl

-- the slot at the top has the least head, and is the first of those that tie
module _ {S : Type 0} (h : S → Option InternalValue) (rest : S → List InternalValue) (slots : List S) (order : List ℕ) (q : IsQueue (map h slots) (map (λ s. all_of (h s) (rest s)) slots) order 0) where
  at_slot : (j : ℕ) (d : S) → j < length slots → get_or (map h slots) j None ≡ h (get_or slots j d)
  at_slot j d lt = get_or-map h slots j d None lt

  -- a slot's index is in the heap, or it has nothing left
  by_place : {P : Type 0} (j : ℕ) (d : S) → j < length slots → ((p : ℕ) → p < length order → get_or order p 0 ≡ j → P) → (h (get_or slots j d) ≡ None → rest (get_or slots j d) ≡ [] → P) → P
  by_place {P} j d lt there gone = go (list_any (eqb j) order) refl
    where
      go : (s : Bool) → list_any (eqb j) order ≡ s → P
      go true e = let r = place_in j order e in there r.0 r.1 r.2
      go false e =
          let at_list : get_or (map (λ s. all_of (h s) (rest s)) slots) j [] ≡ all_of (h (get_or slots j d)) (rest (get_or slots j d)) = get_or-map (λ s. all_of (h s) (rest s)) slots j d [] lt in
          let r = no_head (h (get_or slots j d)) (rest (get_or slots j d)) (ap length (sym at_list) ∙ q.4 j (omega (arith, length-map slots h)) e) in gone r.0 r.1

  pub head_is_first : (j : ℕ) (d : S) → j < length slots → h (get_or slots j d) ≡ first_item (all_of (h (get_or slots j d)) (rest (get_or slots j d)))
  head_is_first j d lt = by_place j d lt
      (λ p m e. first_head (h (get_or slots j d)) (rest (get_or slots j d)) (ap is_some (sym (at_slot j d lt)) ∙ ap (λ n. is_some (get_or (map h slots) n None)) (sym e) ∙ q.3 p (omega arith) m))
      (λ e f. e ∙ sym (ap first_item (ap (λ o. all_of o (rest (get_or slots j d))) e ∙ f)))

  pub none_left : length order ≡ 0 → merged (map (λ s. all_of (h s) (rest s)) slots) ≡ []
  none_left none = nothing_left (map (λ s. all_of (h s) (rest s)) slots) (λ k lt. no_first (get_or (map (λ s. all_of (h s) (rest s)) slots) k [])
      (q.4 k (omega (arith, length-map slots h, length-map slots (λ s. all_of (h s) (rest s)))) (none_of k order none)))

  module _ (some : 0 < length order) where
    top_in : get_or order 0 0 < length slots
    top_in = omega (arith, q.0.1 0 0 some, length-map slots h)

    ahead : (j p : ℕ) → p < length order → get_or order p 0 ≡ j → slot_before (map h slots) j (get_or order 0 0) ≡ false
    ahead j p m e = ap (λ a. slot_before (map h slots) a (get_or order 0 0)) (sym e) ∙ top_first (slot_order (map h slots)) (λ i. get_or order i 0) (length order) q.2 p p (omega arith) m

    pub top_is_first : IsFirstBest (λ s t. head_before (h s) (h t)) slots (length slots) (get_or order 0 0)
    top_is_first = (
      top_in,
      λ j d lt. by_place j d lt
          (λ p m e. ap (λ x. head_before x (h (get_or slots (get_or order 0 0) d))) (sym (at_slot j d lt)) ∙ ap (λ x. head_before (get_or (map h slots) j None) x) (sym (at_slot (get_or order 0 0) d top_in))
          ∙ not_before (heads_order (λ (o : Option InternalValue). o)) (λ i. get_or (map h slots) i None) j (get_or order 0 0) (ahead j p m e))
          (λ e f. none_last (h (get_or slots j d)) (h (get_or slots (get_or order 0 0) d)) e),
      λ j d lt.
          let l : j < length slots = omega (arith, top_in) in
          by_place j d l
          (λ p m e. ap (λ x. head_before x (h (get_or slots j d))) (sym (at_slot (get_or order 0 0) d top_in)) ∙ ap (λ x. head_before (get_or (map h slots) (get_or order 0 0) None) x) (sym (at_slot j d l))
          ∙ tie_before (heads_order (λ (o : Option InternalValue). o)) (λ i. get_or (map h slots) i None) j (get_or order 0 0) lt (ahead j p m e))
          (λ e f. some_first (h (get_or slots (get_or order 0 0) d)) (h (get_or slots j d)) (ap is_some (sym (at_slot (get_or order 0 0) d top_in)) ∙ q.3 0 (omega arith) some) e),
    )

-- what a part that was lent leaves
pub written_back : {X : Type 0} (n : ℕ) (xs ys : List X) → n ≡ length xs → take n (xs ++ ys) ≡ xs
written_back n xs ys e = ap (λ m. take m (xs ++ ys)) e ∙ take-append_seam xs ys
