-- The entries of one key, by falling sequence number: the first visible one is the top.
use Rattle.std.proofs.Common.{◌≡◌, ℕ, ◌+◌, ◌<◌, ◌≤◌, Bool, true, false, cond, ◌&&◌, ◌||◌, List, [], ◌∷◌, ◌++◌, Some, None, refl, sym, ap, ◌∙◌, arith, flat_map, ltb, lt-ltb, le-ltb}
use Rattle.std.specs.List.{find, AllByRecursion}
use Rattle.std.proofs.lemmas.List.Elements.{filter-append}
use Rattle.std.proofs.lemmas.List.Folds.{find-append}
use Rattle.lsm_below.specs.Keys.{Bytes, is_same}
use Rattle.lsm_below.specs.Entries.{Entry, value_by, is_value_kind, is_del_kind, is_weak_kind, value_of, is_value, is_del, is_weak, stack, values, top, later, IsFalling, IsSingle, keep}
use Rattle.lsm_below.specs.declared.value_type.ValueType.{ValueType}
use Rattle.lsm_below.specs.declared.value_type.ValueType.TheVariants.{Value, Tombstone, WeakTombstone}
use Rattle.lsm_model.specs.Views.{shown, walk, seen}
use Rattle.lsm_below.specs.Each.{each_left, each_right}
use Rattle.lsm_model.proofs.Lists.{each_sub, Sublist, done, kept, left, sub_none}

pub falling_left : (xs ys : List Entry) → IsFalling (xs ++ ys) → IsFalling xs
falling_left [] ys h = tt
falling_left (x ∷ xs) ys h = (each_left _ xs ys h.0, falling_left xs ys h.1)

pub falling_right : (xs ys : List Entry) → IsFalling (xs ++ ys) → IsFalling ys
falling_right [] ys h = h
falling_right (x ∷ xs) ys h = falling_right xs ys h.1

pub falling_sub : {xs ys : List Entry} → Sublist xs ys → IsFalling ys → IsFalling xs
falling_sub done h = tt
falling_sub (kept p) h = (each_sub _ p h.0, falling_sub p h.1)
falling_sub (left p) h = falling_sub p h.1

pub values_sub : {xs ys : List Entry} → Sublist xs ys → values xs ≤ values ys
values_sub done = omega arith
values_sub (kept p) = let ih = values_sub p in omega arith
values_sub (left p) = let ih = values_sub p in omega arith

pub single_sub : {xs ys : List Entry} → Sublist xs ys → IsSingle ys → IsSingle xs
single_sub done h = tt
single_sub (kept p) h = (λ w. let a = h.0 w in let b = values_sub p in omega arith, single_sub p h.1)
single_sub (left p) h = single_sub p h.1

-- of falling entries the first is the later one
later_first : (s : ℕ) (e : Entry) (es : List Entry) → AllByRecursion (λ f. f.key.seqno < e.key.seqno) es → later e (find (λ f. ltb f.key.seqno s) es) ≡ Some e
later_first s e [] h = refl
later_first s e (f ∷ es) h =
    elim (ltb f.key.seqno s) as (λ b. later e (cond b (Some f) (find (λ f. ltb f.key.seqno s) es)) ≡ Some e) [
      | true ↦ ap (λ b. cond b (Some f) (Some e)) (le-ltb e.key.seqno f.key.seqno (omega (arith, h.0)))
      | false ↦ later_first s e es h.1
    ]

-- the top is the first visible entry, where sequence numbers fall
pub top_first : (k : Bytes) (s : ℕ) (es : List Entry) → IsFalling (stack k es) → top k s es ≡ find (λ e. ltb e.key.seqno s) (stack k es)
top_first k s [] h = refl
top_first k s (e ∷ es) h =
    elim (is_same k e.key.user_key) as (λ b. IsFalling (cond b (e ∷ stack k es) (stack k es)) → cond (b && ltb e.key.seqno s) (later e (top k s es)) (top k s es) ≡ find (λ e. ltb e.key.seqno s) (cond b (e ∷ stack k es) (stack k es))) [
      | true ↦ λ f. elim (ltb e.key.seqno s) as (λ b. cond b (later e (top k s es)) (top k s es) ≡ cond b (Some e) (find (λ e. ltb e.key.seqno s) (stack k es))) [
        | true ↦ ap (later e) (top_first k s es f.1) ∙ later_first s e (stack k es) f.0
        | false ↦ top_first k s es f.1
      ]
      | false ↦ λ f. top_first k s es f
    ] h

pub stack-append : (k : Bytes) (xs ys : List Entry) → stack k (xs ++ ys) ≡ stack k xs ++ stack k ys
stack-append k xs ys = filter-append (λ e. is_same k e.key.user_key) xs ys

-- a walk that stops at the first visible entry finds the top
pub walk_top : (k : Bytes) (s : ℕ) (sources : List (List Entry)) → IsFalling (stack k (flat_map (λ es. es) sources)) → walk k s sources ≡ top k s (flat_map (λ es. es) sources)
walk_top k s [] h = refl
walk_top k s (es ∷ sources) h =
    let rest = flat_map (λ es. es) sources in
    let f : IsFalling (stack k es ++ stack k rest) = rw (← stack-append k es rest) h in
    let here = top_first k s es (falling_left _ _ f) in
    let there : walk k s sources ≡ top k s rest = walk_top k s sources (falling_right _ _ f) in
    let rest_is = top_first k s rest (falling_right _ _ f) in
    rw (here, there, rest_is, top_first k s (es ++ rest) h, stack-append k es rest) (sym (find-append _ (stack k es) (stack k rest)))

-- entries that the snapshot does not reach
pub seen_past : (s : ℕ) (e : Entry) (es : List Entry) → s ≤ e.key.seqno → seen s (e ∷ es) ≡ seen s es
seen_past s e es h = ap (λ b. shown (cond b (Some e) (find (λ f. ltb f.key.seqno s) es))) (le-ltb e.key.seqno s h)

-- the first entry, where the snapshot reaches it
pub seen_first : (s : ℕ) (e : Entry) (es : List Entry) → e.key.seqno < s → seen s (e ∷ es) ≡ value_of e
seen_first s e es h = ap (λ b. shown (cond b (Some e) (find (λ f. ltb f.key.seqno s) es))) (lt-ltb e.key.seqno s h)

pub seen_behind : (s : ℕ) (p xs ys : List Entry) → seen s xs ≡ seen s ys → seen s (p ++ xs) ≡ seen s (p ++ ys)
seen_behind s [] xs ys h = h
seen_behind s (e ∷ p) xs ys h =
    elim (ltb e.key.seqno s) as (λ b. shown (cond b (Some e) (find (λ f. ltb f.key.seqno s) (p ++ xs))) ≡ shown (cond b (Some e) (find (λ f. ltb f.key.seqno s) (p ++ ys)))) [
      | true ↦ refl
      | false ↦ seen_behind s p xs ys h
    ]

pub keep_sub : (w : ℕ) (evict : Bool) (es : List Entry) → Sublist (keep w evict es) es
keep_sub w evict [] = done
keep_sub w evict (e ∷ []) =
    elim (evict && (is_del e || is_weak e)) as (λ b. Sublist (cond b [] (e ∷ [])) (e ∷ [])) [ true ↦ left done | false ↦ kept done ]
keep_sub w evict (e ∷ (f ∷ rest)) =
    elim (ltb f.key.seqno w) as (λ b. Sublist (cond b (cond (evict && is_del e || is_weak e && is_value f) [] (e ∷ [])) (e ∷ keep w evict (f ∷ rest))) (e ∷ (f ∷ rest))) [
      | true ↦ elim (evict && is_del e || is_weak e && is_value f) as (λ b. Sublist (cond b [] (e ∷ [])) (e ∷ (f ∷ rest))) [ true ↦ sub_none (e ∷ (f ∷ rest)) | false ↦ kept (sub_none (f ∷ rest)) ]
      | false ↦ kept (keep_sub w evict (f ∷ rest))
    ]

-- with no value among them nothing is shown
pub seen_none : (s : ℕ) (es : List Entry) → values es ≡ 0 → seen s es ≡ None
seen_none s [] h = refl
seen_none s (e ∷ es) h =
    elim (ltb e.key.seqno s) as (λ b. shown (cond b (Some e) (find (λ f. ltb f.key.seqno s) es)) ≡ None) [
      | true ↦ not_a_value e.key.value_type e.value (omega arith)
      | false ↦ seen_none s es (omega arith)
    ]
  where
    not_a_value : (c : ValueType) (v : Bytes) → ◌≡◌ {A = ℕ} (cond (is_value_kind c) 1 0) 0 → value_by c v ≡ None
    not_a_value Value v q = absurd (omega arith)
    not_a_value Tombstone v q = refl
    not_a_value WeakTombstone v q = refl

-- where a tombstone hides what comes after it and goes with it, nothing shows either
hidden : (c d : ValueType) (v : Bytes) (evict : Bool) (n : ℕ) → (evict && is_del_kind c || is_weak_kind c && is_value_kind d) ≡ true → (evict ≡ true → n ≡ 0) → (is_weak_kind c ≡ true → cond (is_value_kind d) 1 0 + n ≤ 1) → (value_by c v ≡ None) × (n ≡ 0)
hidden Value d v true n h q w = absurd (cc h)
hidden Value d v false n h q w = absurd (cc h)
hidden Tombstone d v true n h q w = (refl, q refl)
hidden Tombstone d v false n h q w = absurd (cc h)
hidden WeakTombstone Value v true n h q w = (refl, q refl)
hidden WeakTombstone Tombstone v true n h q w = absurd (cc h)
hidden WeakTombstone WeakTombstone v true n h q w = absurd (cc h)
hidden WeakTombstone Value v false n h q w = (refl, let a = w refl in omega arith)
hidden WeakTombstone Tombstone v false n h q w = absurd (cc h)
hidden WeakTombstone WeakTombstone v false n h q w = absurd (cc h)

tombstone : (c : ValueType) (v : Bytes) (evict : Bool) → (evict && (is_del_kind c || is_weak_kind c)) ≡ true → (value_by c v ≡ None) × (evict ≡ true)
tombstone Value v true h = absurd (cc h)
tombstone Value v false h = absurd (cc h)
tombstone Tombstone v true h = (refl, refl)
tombstone Tombstone v false h = absurd (cc h)
tombstone WeakTombstone v true h = (refl, refl)
tombstone WeakTombstone v false h = absurd (cc h)

pub values-append : (xs ys : List Entry) → values (xs ++ ys) ≡ values xs + values ys
values-append [] ys = omega arith
values-append (x ∷ xs) ys = let ih = values-append xs ys in omega arith

-- What a compaction keeps shows what it was given, at snapshots above all its sequence numbers, whatever the watermark:
-- no weak tombstone has two values after it, and where tombstones are evicted no value comes after the part.
pub keep_same : (s w : ℕ) (evict : Bool) (es rest : List Entry) → IsSingle (es ++ rest) → AllByRecursion (λ e. e.key.seqno < s) (es ++ rest) → (evict ≡ true → values rest ≡ 0) → seen s (keep w evict es ++ rest) ≡ seen s (es ++ rest)
keep_same s w evict [] rest single below q = refl
keep_same s w evict (e ∷ []) rest single below q =
    elim (evict && (is_del e || is_weak e)) as (λ b. (evict && (is_del e || is_weak e)) ≡ b → seen s (cond b [] (e ∷ []) ++ rest) ≡ seen s (e ∷ rest)) [
      | true ↦ λ h. let t = tombstone e.key.value_type e.value evict h in
          seen_none s rest (q t.1) ∙ sym (seen_first s e rest below.0 ∙ t.0)
      | false ↦ λ h. refl
    ] refl
keep_same s w evict (e ∷ (f ∷ more)) rest single below q =
    elim (ltb f.key.seqno w) as (λ b. seen s (cond b (cond (evict && is_del e || is_weak e && is_value f) [] (e ∷ [])) (e ∷ keep w evict (f ∷ more)) ++ rest) ≡ seen s (e ∷ (f ∷ (more ++ rest)))) [
      | true ↦ elim (evict && is_del e || is_weak e && is_value f) as (λ b. (evict && is_del e || is_weak e && is_value f) ≡ b → seen s (cond b [] (e ∷ []) ++ rest) ≡ seen s (e ∷ (f ∷ (more ++ rest)))) [
        | true ↦ λ h.
            let few : is_weak e ≡ true → cond (is_value f) 1 0 + values rest ≤ 1 = λ w. let a = single.0 w in omega (arith, values-append more rest) in
            let t = hidden e.key.value_type f.key.value_type e.value evict (values rest) h q few in
            seen_none s rest t.1 ∙ sym (seen_first s e (f ∷ (more ++ rest)) below.0 ∙ t.0)
        | false ↦ λ h. seen_first s e rest below.0 ∙ sym (seen_first s e (f ∷ (more ++ rest)) below.0)
      ] refl
      | false ↦ seen_first s e (keep w evict (f ∷ more) ++ rest) below.0 ∙ sym (seen_first s e (f ∷ (more ++ rest)) below.0)
    ]

pub single_right : (xs ys : List Entry) → IsSingle (xs ++ ys) → IsSingle ys
single_right [] ys h = h
single_right (x ∷ xs) ys h = single_right xs ys h.1

-- the same with entries before it
pub keep_same_behind : (s w : ℕ) (evict : Bool) (before es rest : List Entry) → IsSingle (before ++ (es ++ rest)) → AllByRecursion (λ e. e.key.seqno < s) (before ++ (es ++ rest)) → (evict ≡ true → values rest ≡ 0) → seen s (before ++ (keep w evict es ++ rest)) ≡ seen s (before ++ (es ++ rest))
keep_same_behind s w evict before es rest single below q =
    seen_behind s before _ _ (keep_same s w evict es rest (single_right before _ single) (each_right _ before _ below) q)
