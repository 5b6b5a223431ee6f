-- What a merge gives of each key.
use Rattle.std.proofs.Common.{◌≡◌, ℕ, ◌<◌, ◌≤◌, ◌+◌, Bool, true, false, cond, List, [], ◌∷◌, ◌++◌, flat_map, map, refl, sym, ap, ◌∙◌, subst, arith, nat_eq, ◌⊎◌, inl, inr, ⊎_elim, not, filter}
use Rattle.std.specs.List.{AllByRecursion, sum_by}
use Rattle.std.specs.List.Sorted.{IsPermutation}
use Rattle.std.proofs.lemmas.Bool.Decides.{nat_tests}
use Rattle.std.proofs.lemmas.List.Elements.{All-from_recursion, recursion_from_All, filter-append}
use Rattle.std.proofs.lemmas.List.Sorted.{sum_by-IsPermutation, All-permutation, IsPermutation-sym, IsPermutation-trans}
use Rattle.std.proofs.lemmas.List.Sums.{sum_by-cons}
use Rattle.lsm_below.specs.declared.value.InternalValue.{InternalValue}
use Rattle.lsm_below.specs.Entries.{entry_cmp, IsFalling, stack, keep}
use Rattle.lsm_below.specs.Streams.{IsInOrder, Merges, is_of, IsByKey, distinct, keep_distinct}
use Rattle.lsm_below.specs.Slots.{merged, is_before}
use Rattle.lsm_below.proofs.Keeping.{differs}
use Rattle.lsm_below.specs.Each.{each_weaker}
use Rattle.lsm_below.specs.FilterLaws.{filter_all}
use Rattle.lsm_below.proofs.Orders.{ascends_filter}
use Rattle.lsm_below.proofs.OneKey.{stack_falls}
use Rattle.lsm_below.proofs.Taking.{map_twice}
use Rattle.lsm_below.proofs.Merging.{merged_same_filtered, merges_merged}

-- ---- two lists with the same items

record Same {X : Type 0} (xs ys : List X) : Type 1 where
  sums : (f : X → ℕ) → sum_by f ys ≡ sum_by f xs
  each : (P : X → Type 0) → AllByRecursion P xs → AllByRecursion P ys

same_from : {X : Type 0} (xs ys : List X) → IsPermutation xs ys → Same xs ys
same_from xs ys p = record { sums = λ f. sum_by-IsPermutation f xs ys p; each = λ P h. recursion_from_All P ys (All-permutation P xs ys p (All-from_recursion P xs h)) }

-- sequence numbers don't rise
abbrev Lowers : List InternalValue → Type 0
Lowers [] = Unit {0}
Lowers (e ∷ es) = AllByRecursion (λ f. f.key.seqno ≤ e.key.seqno) es × Lowers es

abbrev at_number : ℕ → InternalValue → ℕ
at_number n e = cond (nat_eq n e.key.seqno) 1 0

below_not : (m n : ℕ) → n < m → nat_eq m n ≡ false
below_not m n h = grind (arith, nat_tests)

is_at : (n : ℕ) → nat_eq n n ≡ true
is_at n = grind (arith, nat_tests)

none_at : (n : ℕ) (es : List InternalValue) → AllByRecursion (λ f. f.key.seqno < n) es → sum_by (at_number n) es ≡ 0
none_at n [] h = refl
none_at n (e ∷ es) h =
    sum_by-cons (at_number n) e es ∙ ap (λ b. cond b 1 0 + sum_by (at_number n) es) (below_not n e.key.seqno h.0) ∙ (let ih = none_at n es h.1 in omega arith)

none_from : (n : ℕ) (es : List InternalValue) → sum_by (at_number n) es ≡ 0 → AllByRecursion (λ f. nat_eq n f.key.seqno ≡ false) es
none_from n [] h = tt
none_from n (e ∷ es) h = go (λ z. none_from n es z) (nat_eq n e.key.seqno) refl
  where
    go : (sum_by (at_number n) es ≡ 0 → AllByRecursion (λ f. nat_eq n f.key.seqno ≡ false) es) → (b : Bool) → nat_eq n e.key.seqno ≡ b → AllByRecursion (λ f. nat_eq n f.key.seqno ≡ false) (e ∷ es)
    go later true q = let s = sym (sum_by-cons (at_number n) e es) ∙ h in let t = ap (λ b. cond b 1 0 + sum_by (at_number n) es) q in absurd (omega arith)
    go later false q = let s = sym (sum_by-cons (at_number n) e es) ∙ h in let t = ap (λ b. cond b 1 0 + sum_by (at_number n) es) q in (q, later (omega arith))

one_at : (e : InternalValue) (es : List InternalValue) → sum_by (at_number e.key.seqno) (e ∷ es) ≡ 1 + sum_by (at_number e.key.seqno) es
one_at e es = sum_by-cons (at_number e.key.seqno) e es ∙ ap (λ b. cond b 1 0 + sum_by (at_number e.key.seqno) es) (is_at e.key.seqno)

-- sequence numbers that fall are found again in one order alone
same_falling : (xs ys : List InternalValue) → IsFalling xs → Lowers ys → Same xs ys → ys ≡ xs
same_falling [] [] h k s = refl
same_falling [] (y ∷ ys) h k s = let q = s.sums (λ _. 1) in let r = sum_by-cons (λ _. 1) y ys in absurd (omega arith)
same_falling (x ∷ xs) [] h k s = let q = s.sums (λ _. 1) in let r = sum_by-cons (λ _. 1) x xs in absurd (omega arith)
same_falling (x ∷ xs) (y ∷ ys) h k s =
    let at = s.each (λ z. (z ≡ x) ⊎ (z.key.seqno < x.key.seqno)) (inl refl, each_weaker (λ z. z.key.seqno < x.key.seqno) (λ z. (z ≡ x) ⊎ (z.key.seqno < x.key.seqno)) (λ z l. inr l) xs h.0) in
    let count = s.sums (at_number x.key.seqno) in
    let ones = one_at x xs in
    let none = none_at x.key.seqno xs h.0 in
    ⊎_elim
    (λ (q : y ≡ x).
    let front = ap (λ z. sum_by (at_number x.key.seqno) (z ∷ ys)) q ∙ one_at x ys in
    let gone = none_from x.key.seqno ys (omega arith) in
    let rest : Same xs ys = record {
      sums = λ f. let a = s.sums f in let b = sum_by-cons f y ys in let d = sum_by-cons f x xs in let e = ap f q in omega arith;
      each = λ P p. others x P ys (s.each (λ z. (z ≡ x) ⊎ P z) (inl refl, each_weaker P (λ z. (z ≡ x) ⊎ P z) (λ z r. inr r) xs p)).1 gone;
    } in
    ap (λ z. z ∷ ys) q ∙ ap (λ zs. x ∷ zs) (same_falling xs ys h.1 k.1 rest))
    (λ (l : y.key.seqno < x.key.seqno).
    let zero = none_at x.key.seqno (y ∷ ys) (l, each_weaker (λ f. f.key.seqno ≤ y.key.seqno) (λ f. f.key.seqno < x.key.seqno) (λ f m. omega arith) ys k.0) in
    absurd (omega arith))
    at.0
  where
    others : (x : InternalValue) (P : InternalValue → Type 0) (zs : List InternalValue) → AllByRecursion (λ z. (z ≡ x) ⊎ P z) zs → AllByRecursion (λ f. nat_eq x.key.seqno f.key.seqno ≡ false) zs → AllByRecursion P zs
    others x P [] h k = tt
    others x P (z ∷ zs) h k = (
      ⊎_elim (λ (q : z ≡ x). let bad : true ≡ false = sym (is_at x.key.seqno) ∙ ap (λ y. nat_eq x.key.seqno y.key.seqno) (sym q) ∙ k.0 in absurd (let z = bad in cc z)) (λ (p : P z). p) h.0,
      others x P zs h.1 k.1,
    )

-- ---- of each key

lowers_stack : (k : List ℕ) (es : List InternalValue) → IsInOrder es → Lowers (stack k es)
lowers_stack k [] h = tt
lowers_stack k (e ∷ es) h = elim (is_of k e) as (λ b. is_of k e ≡ b → Lowers (cond b (e ∷ stack k es) (stack k es))) [
  | true ↦ λ q. (stack_falls k e es q h.0, lowers_stack k es h.1)
  | false ↦ λ q. lowers_stack k es h.1
] refl

stacks_joined : (k : List ℕ) (lists : List (List InternalValue)) → flat_map (λ l. l) (map (stack k) lists) ≡ flat_map (stack k) lists
stacks_joined k [] = refl
stacks_joined k (l ∷ lists) = ap (λ r. stack k l ++ r) (stacks_joined k lists)

-- each key's entries are an ordered merge of the lists' entries of that key
pub stacks_merge : (lists : List (List InternalValue)) → AllByRecursion IsInOrder lists → (k : List ℕ) → Merges (map (stack k) lists) (stack k (merged lists))
stacks_merge lists h k = record {
  same = merged_same_filtered is_before (is_of k) lists;
  in_order = ascends_filter entry_cmp (is_of k) (merged lists) (merges_merged lists h).in_order;
}

-- where all numbers of an earlier list are above those of a later one, one list's entries come after the other's
pub stacks_follow : (lists : List (List InternalValue)) → AllByRecursion IsInOrder lists → (k : List ℕ) → IsFalling (flat_map (stack k) lists) → stack k (merged lists) ≡ flat_map (stack k) lists
stacks_follow lists h k f =
    same_falling (flat_map (stack k) lists) (stack k (merged lists)) f (lowers_stack k (merged lists) (merges_merged lists h).in_order)
    (subst (λ l. Same l (stack k (merged lists))) (stacks_joined k lists) (same_from (flat_map (λ l. l) (map (stack k) lists)) (stack k (merged lists)) (merged_same_filtered is_before (is_of k) lists)))

-- the same for sources, of which f gives what each has left
module _ {S : Type 0} (f : S → List InternalValue) (sources : List S) (lists : List (List InternalValue)) (is : lists ≡ map f sources) (ordered : AllByRecursion IsInOrder (map f sources)) where
  in_order : AllByRecursion IsInOrder lists
  in_order = subst (AllByRecursion IsInOrder) (sym is) ordered

  pub sources_merge : (k : List ℕ) → Merges (map (λ s. stack k (f s)) sources) (stack k (merged lists))
  sources_merge k = subst (λ (ls : List (List InternalValue)). Merges ls (stack k (merged lists))) (ap (map (stack k)) is ∙ map_twice (stack k) f sources) (stacks_merge lists in_order k)

  joined : (k : List ℕ) (xs : List S) → flat_map (stack k) (map f xs) ≡ flat_map (λ s. stack k (f s)) xs
  joined k [] = refl
  joined k (x ∷ xs) = ap (λ l. stack k (f x) ++ l) (joined k xs)

  pub sources_follow : (k : List ℕ) → IsFalling (flat_map (λ s. stack k (f s)) sources) → stack k (merged lists) ≡ flat_map (λ s. stack k (f s)) sources
  sources_follow k h =
      let same = ap (flat_map (stack k)) is ∙ joined k sources in
      stacks_follow lists in_order k (subst IsFalling (sym same) h) ∙ same

-- where sequence numbers fall, none are equal
pub distinct_falling : (es : List InternalValue) → IsFalling es → distinct es ≡ es
distinct_falling [] h = refl
distinct_falling (e ∷ es) h =
    ap (λ l. e ∷ filter (λ f. not (nat_eq e.key.seqno f.key.seqno)) l) (distinct_falling es h.1)
    ∙ ap (λ l. e ∷ l) (filter_all (λ f. not (nat_eq e.key.seqno f.key.seqno)) es (each_weaker (λ f. f.key.seqno < e.key.seqno) (λ f. not (nat_eq e.key.seqno f.key.seqno) ≡ true) (λ f l. differs e.key.seqno f.key.seqno l) es h.0))

-- a key's entries in all sources are those in each, one after the other
stacks_of : {S : Type 0} (f : S → List InternalValue) (k : List ℕ) (xs : List S) → stack k (flat_map f xs) ≡ flat_map (λ s. stack k (f s)) xs
stacks_of f k [] = refl
stacks_of f k (x ∷ xs) = filter-append (is_of k) (f x) (flat_map f xs) ∙ ap (λ l. stack k (f x) ++ l) (stacks_of f k xs)

pub lists_joined : {S : Type 0} (f : S → List InternalValue) (xs : List S) → flat_map (λ l. l) (map f xs) ≡ flat_map f xs
lists_joined f [] = refl
lists_joined f (x ∷ xs) = ap (λ l. f x ++ l) (lists_joined f xs)

-- what is kept of each key, where the sources are ordered
pub kept_of_all : {S : Type 0} (f : S → List InternalValue) (xs : List S) (w : ℕ) (v : Bool) (k : List ℕ) (out : List InternalValue) → (IsFalling (flat_map (λ s. stack k (f s)) xs) → out ≡ keep w v (flat_map (λ s. stack k (f s)) xs)) → IsFalling (stack k (flat_map (λ l. l) (map f xs))) → out ≡ keep w v (stack k (flat_map f xs))
kept_of_all f xs w v k out h o = h (subst IsFalling (ap (stack k) (lists_joined f xs) ∙ stacks_of f k xs) o) ∙ ap (keep w v) (sym (stacks_of f k xs))

-- what a compaction keeps of lists that stand one after the other
pub kept_in_turn : (w : ℕ) (v : Bool) (input out joined : List InternalValue) (k : List ℕ) → IsByKey (keep_distinct w v) input out → stack k input ≡ joined → IsFalling joined → stack k out ≡ keep w v joined
kept_in_turn w v input out joined k by is h = by.stacks k ∙ ap (λ l. keep w v (distinct l)) is ∙ ap (keep w v) (distinct_falling joined h)

-- whatever the order of the lists, a merge gives each key's entries as they fall
pub settled : (k : List ℕ) (es : List InternalValue) (lists : List (List InternalValue)) (xs : List InternalValue) → IsInOrder es → Merges lists (stack k es) → IsFalling xs → IsPermutation (flat_map (λ l. l) lists) xs → stack k es ≡ xs
settled k es lists xs in_order merges falls same =
    same_falling xs (stack k es) falls (lowers_stack k es in_order) (same_from xs (stack k es) (IsPermutation-trans xs (flat_map (λ l. l) lists) (stack k es) (IsPermutation-sym (flat_map (λ l. l) lists) xs same) merges.same))
