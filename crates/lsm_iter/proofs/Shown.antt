-- The list of what entries show.
use Rattle.std.proofs.Common.{◌≡◌, zero, suc, ◌≤◌, Bool, true, false, cond, List, [], ◌∷◌, length, filter, Option, Some, None, option_to_list, refl, sym, ap, ◌∙◌, subst, arith, inl, inr, ◌⊎◌}
use Rattle.std.specs.List.{All, AllByRecursion, Contains}
use Rattle.std.specs.declared.cmp.Ordering.{Ordering}
use Rattle.std.specs.declared.cmp.Ordering.TheVariants.{Less, Equal, Greater}
use Rattle.std.specs.declared.ops.Bound.{Bound}
use Rattle.std.specs.Ordering.{nat_cmp, is_le, is_eq, ordering_then}
use Rattle.std.specs.Cmp.Lexicographic.{slice_cmp}
use Rattle.std.proofs.lemmas.Cmp.{nat_list_cmp_total, tied_itself}
use Rattle.std.proofs.lemmas.List.{nil_from_length}
use Rattle.std.proofs.lemmas.List.Elements.{All-contains, All-contains_itself, All-weaker, All-cons, All-nil, filter_passes}
use Rattle.lsm_below.specs.Keys.{Bytes, is_same}
use Rattle.lsm_below.specs.Entries.{Entry, entry_cmp, stack, is_value, value_by, is_value_kind}
use Rattle.lsm_below.specs.Sorted.{Rises}
use Rattle.lsm_below.specs.Streams.{IsInOrder, is_of}
use Rattle.lsm_below.specs.declared.value_type.ValueType.{ValueType}
use Rattle.lsm_below.specs.declared.value_type.ValueType.TheVariants.{Value, Tombstone, WeakTombstone}
use Rattle.lsm_below.specs.Laws.{EntriesAreOrdered}
use Rattle.lsm_model.specs.Views.{shown}
use Rattle.lsm_model.specs.Laws.{MapsAreRead}
use Rattle.lsm_memtable.specs.Memtables.{within}
use Rattle.lsm_iter.specs.Shown.{lies_within, IsNewest, IsShown, by_key, Shows}
use Rattle.lsm_iter.proofs.Rises.{rises_filter}

-- ---- filters, and what they hold

module _ {X : Type 0} where
  pub contains_here : (x : X) (xs : List X) → Contains (x ∷ xs) x
  contains_here x xs = (0, omega arith, refl)

  pub contains_behind : (y : X) (xs : List X) (x : X) → Contains xs x → Contains (y ∷ xs) x
  contains_behind y xs x h = (suc h.0, omega (arith, h.1), h.2)

  pub contains_split : (y : X) (xs : List X) (x : X) → Contains (y ∷ xs) x → (y ≡ x) ⊎ Contains xs x
  contains_split y xs x (zero, lt, is) = inl is
  contains_split y xs x (suc k, lt, is) = inr (k, omega (arith, lt), is)

module _ {X : Type 0} (p : X → Bool) where
  pub filter_has : (xs : List X) (x : X) → Contains xs x → p x ≡ true → Contains (filter p xs) x
  filter_has [] x h q = h
  filter_has (y ∷ xs) x h q = elim (contains_split y xs x h) [
    | inl e ↦ subst (λ b. Contains (cond b (y ∷ filter p xs) (filter p xs)) x) (sym (ap p e ∙ q)) (subst (Contains (y ∷ filter p xs)) e (contains_here y (filter p xs)))
    | inr r ↦ elim (p y) as (λ b. Contains (cond b (y ∷ filter p xs) (filter p xs)) x) [
      | true ↦ contains_behind y (filter p xs) x (filter_has xs x r q)
      | false ↦ filter_has xs x r q
    ]
  ]

  pub filter_had : (xs : List X) (x : X) → Contains (filter p xs) x → Contains xs x
  filter_had [] x h = h
  filter_had (y ∷ xs) x h = go (filter_had xs x) (p y) h
    where
      go : (Contains (filter p xs) x → Contains xs x) → (b : Bool) → Contains (cond b (y ∷ filter p xs) (filter p xs)) x → Contains (y ∷ xs) x
      go rest true k = elim (contains_split y (filter p xs) x k) [
        | inl e ↦ subst (Contains (y ∷ xs)) e (contains_here y xs)
        | inr r ↦ contains_behind y xs x (rest r)
      ]
      go rest false k = contains_behind y xs x (rest k)

  -- of a list that a test passed nothing is gone
  pub filter_swap : (q : X → Bool) (xs : List X) → filter p (filter q xs) ≡ filter q (filter p xs)
  filter_swap q [] = refl
  filter_swap q (x ∷ xs) =
      elim (p x) as (λ b. p x ≡ b → filter p (cond (q x) (x ∷ filter q xs) (filter q xs)) ≡ filter q (cond b (x ∷ filter p xs) (filter p xs))) [
        | true ↦ λ h. elim (q x) as (λ c. filter p (cond c (x ∷ filter q xs) (filter q xs)) ≡ cond c (x ∷ filter q (filter p xs)) (filter q (filter p xs))) [
          | true ↦ ap (λ b. cond b (x ∷ filter p (filter q xs)) (filter p (filter q xs))) h ∙ ap (λ l. x ∷ l) (filter_swap q xs)
          | false ↦ filter_swap q xs
        ]
        | false ↦ λ h. elim (q x) as (λ c. filter p (cond c (x ∷ filter q xs) (filter q xs)) ≡ filter q (filter p xs)) [
          | true ↦ ap (λ b. cond b (x ∷ filter p (filter q xs)) (filter p (filter q xs))) h ∙ filter_swap q xs
          | false ↦ filter_swap q xs
        ]
      ] refl

  -- where all that p passes passes w too, w makes no difference
  inner_step : (v w : X → Bool) (x : X) (xs : List X) → (p x ≡ true → w x ≡ true) → filter p (filter v (filter w xs)) ≡ filter p (filter v xs) → (b d : Bool) → w x ≡ b → p x ≡ d → filter p (filter v (cond b (x ∷ filter w xs) (filter w xs))) ≡ filter p (filter v (x ∷ xs))
  inner_step v w x xs h rest true d wx px = elim (v x) as (λ c. filter p (cond c (x ∷ filter v (filter w xs)) (filter v (filter w xs))) ≡ filter p (cond c (x ∷ filter v xs) (filter v xs))) [
    | true ↦ ap (λ l. cond (p x) (x ∷ l) l) rest
    | false ↦ rest
  ]
  inner_step v w x xs h rest false true wx px = absurd (let z : true ≡ false = sym (h px) ∙ wx in cc z)
  inner_step v w x xs h rest false false wx px = rest ∙ (elim (v x) as (λ c. filter p (filter v xs) ≡ filter p (cond c (x ∷ filter v xs) (filter v xs))) [
    | true ↦ sym (ap (λ d. cond d (x ∷ filter p (filter v xs)) (filter p (filter v xs))) px)
    | false ↦ refl
  ])

  filter_inner : (v w : X → Bool) → ((x : X) → p x ≡ true → w x ≡ true) → (xs : List X) → filter p (filter v (filter w xs)) ≡ filter p (filter v xs)
  filter_inner v w h [] = refl
  filter_inner v w h (x ∷ xs) = inner_step v w x xs (h x) (filter_inner v w h xs) (w x) (p x) refl refl

  -- where nothing that p passes passes w, nothing is left
  outer_step : (v w : X → Bool) (x : X) (xs : List X) → (p x ≡ true → w x ≡ false) → filter p (filter v (filter w xs)) ≡ [] → (b d : Bool) → w x ≡ b → p x ≡ d → filter p (filter v (cond b (x ∷ filter w xs) (filter w xs))) ≡ []
  outer_step v w x xs h rest true true wx px = absurd (let z : true ≡ false = sym wx ∙ h px in cc z)
  outer_step v w x xs h rest true false wx px = elim (v x) as (λ c. filter p (cond c (x ∷ filter v (filter w xs)) (filter v (filter w xs))) ≡ []) [
    | true ↦ ap (λ d. cond d (x ∷ filter p (filter v (filter w xs))) (filter p (filter v (filter w xs)))) px ∙ rest
    | false ↦ rest
  ]
  outer_step v w x xs h rest false d wx px = rest

  filter_outer : (v w : X → Bool) → ((x : X) → p x ≡ true → w x ≡ false) → (xs : List X) → filter p (filter v (filter w xs)) ≡ []
  filter_outer v w h [] = refl
  filter_outer v w h (x ∷ xs) = outer_step v w x xs (h x) (filter_outer v w h xs) (w x) (p x) refl refl

-- ---- one key

pub of_itself : (k : Bytes) → is_same k k ≡ true
of_itself k = ap is_eq (tied_itself nat_list_cmp_total k)

abbrev pub first_item : List Entry → Option Entry
first_item [] = None
first_item (e ∷ es) = Some e

pub lowers : (entries : EntriesAreOrdered) → (k : Bytes) (e : Entry) (es : List Entry) → is_of k e ≡ true → AllByRecursion (λ f. is_of k f ≡ true) es → AllByRecursion (λ f. is_le (entry_cmp e f) ≡ true) es → AllByRecursion (λ f. f.key.seqno ≤ e.key.seqno) es
lowers entries k e [] ke of le = tt
lowers entries k e (f ∷ es) ke of le = (entries.number_falls e f (entries.alike k e f ke of.0) le.0, lowers entries k e es ke of.1 le.1)

-- ---- bounds

-- a key's entries of those within bounds
pub only_within : (maps : MapsAreRead) → (low high : Bound Bytes) (k : Bytes) → lies_within low high k ≡ true → (es : List Entry) → stack k (within low high es) ≡ stack k es
only_within maps low high k h es =
    sym (ap (filter (is_of k)) (filter_every (within low high es))) ∙ filter_inner (is_of k) (λ e. true) (λ e. lies_within low high e.key.user_key) (λ e q. ap (lies_within low high) (sym (maps.same_key k e.key.user_key q)) ∙ h) es
    ∙ ap (filter (is_of k)) (filter_every es)
  where
    filter_every : (xs : List Entry) → filter (λ e. true) xs ≡ xs
    filter_every [] = refl
    filter_every (x ∷ xs) = ap (λ l. x ∷ l) (filter_every xs)

pub all_outside : (maps : MapsAreRead) → (low high : Bound Bytes) (k : Bytes) → lies_within low high k ≡ false → (es : List Entry) → stack k (within low high es) ≡ []
all_outside maps low high k h es =
    sym (ap (filter (is_of k)) (filter_each (within low high es))) ∙ filter_outer (is_of k) (λ e. true) (λ e. lies_within low high e.key.user_key) (λ e q. ap (lies_within low high) (sym (maps.same_key k e.key.user_key q)) ∙ h) es
  where
    filter_each : (xs : List Entry) → filter (λ e. true) xs ≡ xs
    filter_each [] = refl
    filter_each (x ∷ xs) = ap (λ l. x ∷ l) (filter_each xs)

-- ---- entries in order

-- ---- the list that is shown

-- of each key within bounds its newest entry, in order, and no other entry
pub record AreNewest (low high : Bound Bytes) (es out : List Entry) : Type 0 where
  pub in_order : IsInOrder out
  pub newest : Bytes → Option Entry
  pub stacks : (k : Bytes) → stack k out ≡ option_to_list (newest k)
  pub inner : (k : Bytes) → lies_within low high k ≡ true → IsNewest es k (newest k)
  pub outer : (k : Bytes) → lies_within low high k ≡ false → newest k ≡ None

less_of : (r n : Ordering) → is_le (ordering_then r n) ≡ true → is_eq r ≡ false → r ≡ Less
less_of Less n h other = refl
less_of Equal n h other = absurd (cc other)
less_of Greater n h other = absurd (cc h)

above_step : (e f : Entry) (rest : List Entry) → (b : Bool) → is_same e.key.user_key f.key.user_key ≡ b → is_le (entry_cmp e f) ≡ true → cond b (f ∷ rest) rest ≡ [] → (by_key e f ≡ Less) × (rest ≡ [])
above_step e f rest true is le none = absurd (cc none)
above_step e f rest false is le none = (less_of (slice_cmp nat_cmp e.key.user_key f.key.user_key) (nat_cmp f.key.seqno e.key.seqno) le is, none)

-- where a key doesn't come again, all later keys are above it
all_above : (e : Entry) (es : List Entry) → AllByRecursion (λ f. is_le (entry_cmp e f) ≡ true) es → stack e.key.user_key es ≡ [] → All (λ f. by_key e f ≡ Less) es
all_above e [] le none = All-nil (λ f. by_key e f ≡ Less)
all_above e (f ∷ es) le none =
    let step = above_step e f (stack e.key.user_key es) (is_same e.key.user_key f.key.user_key) refl le.0 none in
    All-cons (λ f. by_key e f ≡ Less) f es step.0 (all_above e es le.1 step.1)

tail_few : (k : Bytes) (e : Entry) (es : List Entry) → length (stack k (e ∷ es)) ≤ 1 → length (stack k es) ≤ 1
tail_few k e es h = go (is_same k e.key.user_key) h
  where
    go : (b : Bool) → length (cond b (e ∷ stack k es) (stack k es)) ≤ 1 → length (stack k es) ≤ 1
    go true h = omega (arith, h)
    go false h = h

-- keys in order, none of which comes twice, rise
pub rises_keys : (es : List Entry) → IsInOrder es → ((k : Bytes) → length (stack k es) ≤ 1) → Rises by_key es
rises_keys [] order few = tt
rises_keys (e ∷ es) order few =
    let own : length (e ∷ stack e.key.user_key es) ≤ 1 = subst (λ b. length (cond b (e ∷ stack e.key.user_key es) (stack e.key.user_key es)) ≤ 1) (of_itself e.key.user_key) (few e.key.user_key) in
    let zero : length (stack e.key.user_key es) ≡ 0 = omega (arith, own) in
    (all_above e es order.0 (nil_from_length (stack e.key.user_key es) zero), rises_keys es order.1 (λ k. tail_few k e es (few k)))

not_value : (c : ValueType) (v : Bytes) → is_value_kind c ≡ false → value_by c v ≡ None
not_value Value v h = absurd (cc h)
not_value Tombstone v h = refl
not_value WeakTombstone v h = refl

no_value : (o : Option Entry) → filter is_value (option_to_list o) ≡ [] → shown o ≡ None
no_value None h = refl
no_value (Some e) h = go (is_value e) refl h
  where
    go : (b : Bool) → is_value e ≡ b → cond b (e ∷ []) [] ≡ [] → shown (Some e) ≡ None
    go true is h = absurd (cc h)
    go false is h = not_value e.key.value_type e.value is

only_one : (o : Option Entry) (e : Entry) → Contains (option_to_list o) e → o ≡ Some e
only_one None e h = absurd (omega (arith, h.1))
only_one (Some f) e h = elim (contains_split f [] e h) [
  | inl is ↦ ap (λ x. Some x) is
  | inr none ↦ absurd (omega (arith, none.1))
]

few_of : (o : Option Entry) → length (option_to_list o) ≤ 1
few_of None = omega arith
few_of (Some e) = omega arith

module _ (low high : Bound Bytes) (es out : List Entry) (h : AreNewest low high es out) where
  is_newest : (e : Entry) → Contains out e → h.newest e.key.user_key ≡ Some e
  is_newest e there =
      let k = e.key.user_key in
      only_one (h.newest k) e (subst (λ l. Contains l e) (h.stacks k) (filter_has (is_of k) out e there (of_itself k)))

  is_inside : (k : Bytes) (e : Entry) → h.newest k ≡ Some e → (b : Bool) → lies_within low high k ≡ b → b ≡ true
  is_inside k e is true within = refl
  is_inside k e is false within = absurd (let none : None ≡ Some e = sym (h.outer k within) ∙ is in cc none)

  lists : (e : Entry) → Contains (filter is_value out) e → (lies_within low high e.key.user_key ≡ true) × IsShown es e
  lists e there =
      let k = e.key.user_key in
      let is = is_newest e (filter_had is_value out e there) in
      let within = is_inside k e is (lies_within low high k) refl in (
        within,
        record {
          newest = subst (IsNewest es k) is (h.inner k within);
          value = All-contains (λ x. is_value x ≡ true) (filter is_value out) e (filter_passes is_value out) there;
        },
      )

  -- the values among the newest entries are what is shown
  pub shows_newest : Shows low high es (filter is_value out)
  shows_newest = record {
    rises = rises_filter by_key is_value out (rises_keys out h.in_order (λ k. subst (λ l. length l ≤ 1) (sym (h.stacks k)) (few_of (h.newest k))));
    each = All-weaker (Contains (filter is_value out)) (λ e. (lies_within low high e.key.user_key ≡ true) × IsShown es e) lists (filter is_value out) (All-contains_itself (filter is_value out));
    rest = λ k within none. (h.newest k, h.inner k within, no_value (h.newest k) (sym (ap (filter is_value) (h.stacks k)) ∙ filter_swap is_value (is_of k) out ∙ none));
  }
