-- Memtables whose ids fall are found by bisection.
use Rattle.std.proofs.Common.{◌≡◌, ℕ, ◌<◌, ◌≤◌, ◌≢◌, Bool, true, false, cond, List, [], ◌∷◌, Option, Some, None, IsSome, refl, sym, ap, ◌∙◌, arith, zero, suc, length, get_or, eqb, nat_lt}
use Rattle.std.proofs.lemmas.Bool.Decides.{nat_tests}
use Rattle.std.specs.List.{AllWithin}
use Rattle.std.specs.List.Sorted.{IsPartitionedBy}
use Rattle.lsm_below.specs.Entries.{Entry}
use Rattle.lsm_memtable.specs.Memtables.{SeenMemtable}
use Rattle.lsm_parts.specs.Held.{entries_of, held_at, FallFrom, ids_of}

module _ (id : ℕ) where
  abbrev above : SeenMemtable → Bool
  above t = nat_lt id t.id

  at_other : (i : ℕ) (x y : Option SeenMemtable) → id ≢ i → cond (eqb id i) x y ≡ y
  at_other i x y h = grind (arith, nat_tests)

  at_same : (i : ℕ) (x y : Option SeenMemtable) → i ≡ id → cond (eqb id i) x y ≡ x
  at_same i x y h = grind (arith, nat_tests)

  is_above : (i : ℕ) → nat_lt id i ≡ true → id < i
  is_above i h = grind (arith, nat_tests)

  isnt_above : (i : ℕ) → nat_lt id i ≡ false → i ≤ id
  isnt_above i h = grind (arith, nat_tests)

  from_above : (i j : ℕ) → j < i → nat_lt id j ≡ true → nat_lt id i ≡ true
  from_above i j lt h = grind (arith, nat_tests)

  pub all_lower : (ts : List SeenMemtable) (n j : ℕ) (d : SeenMemtable) → FallFrom n (ids_of ts) → j < length ts → (get_or ts j d).id < n
  all_lower [] n j d h lt = absurd (omega arith)
  all_lower (t ∷ ts) n zero d h lt = h.0
  all_lower (t ∷ ts) n (suc j) d h lt =
      let rest : (get_or ts j d).id < t.id = all_lower ts t.id j d h.1 (omega arith) in
      let here : t.id < n = h.0 in
      omega arith

  -- those with greater ids come first
  pub above_first : (ts : List SeenMemtable) (n : ℕ) → FallFrom n (ids_of ts) → IsPartitionedBy above ts
  above_first [] n h i j d le lt is = absurd (omega arith)
  above_first (t ∷ ts) n h zero zero d le lt is = is
  above_first (t ∷ ts) n h zero (suc j) d le lt is = from_above t.id (get_or ts j d).id (all_lower ts t.id j d h.1 (omega arith)) is
  above_first (t ∷ ts) n h (suc i) zero d le lt is = absurd (omega arith)
  above_first (t ∷ ts) n h (suc i) (suc j) d le lt is = above_first ts t.id h.1 i j d (omega arith) (omega arith) is

  -- all ids are below it
  none_below : (ts : List SeenMemtable) (n : ℕ) → FallFrom n (ids_of ts) → n ≤ id → held_at ts id ≡ None
  none_below [] n h le = refl
  none_below (t ∷ ts) n h le =
      let lower : t.id < n = h.0 in
      at_other t.id (Some t) (held_at ts id) (λ e. absurd (omega arith)) ∙ none_below ts t.id h.1 (omega arith)

  -- all are above it
  pub none_above : (ts : List SeenMemtable) → AllWithin (λ t. above t ≡ true) ts 0 (length ts) → held_at ts id ≡ None
  none_above [] h = refl
  none_above (t ∷ ts) h =
      let over : id < t.id = is_above t.id (h 0 t (omega arith) (omega arith)) in
      at_other t.id (Some t) (held_at ts id) (λ e. absurd (omega arith)) ∙ none_above ts (λ k d low high. h (suc k) d (omega arith) (omega arith))

  -- the first one that isn't above it has this id
  pub found : (ts : List SeenMemtable) (i : ℕ) (t : SeenMemtable) → AllWithin (λ t. above t ≡ true) ts 0 i → i < length ts → t ≡ get_or ts i t → t.id ≡ id → Some t ≡ held_at ts id
  found [] i t h lt is same = absurd (omega arith)
  found (u ∷ ts) zero t h lt is same = sym (at_same u.id (Some u) (held_at ts id) (ap (λ x. x.id) (sym is) ∙ same) ∙ ap Some (sym is))
  found (u ∷ ts) (suc i) t h lt is same =
      let over : id < u.id = is_above u.id (h 0 u (omega arith) (omega arith)) in
      found ts i t (λ k d low high. h (suc k) d (omega arith) (omega arith)) (omega arith) is same ∙ sym (at_other u.id (Some u) (held_at ts id) (λ e. absurd (omega arith)))

  -- where it has another one, none has
  pub missed : (ts : List SeenMemtable) (n i : ℕ) (t : SeenMemtable) → FallFrom n (ids_of ts) → AllWithin (λ t. above t ≡ true) ts 0 i → i < length ts → t ≡ get_or ts i t → above t ≡ false → (t.id ≡ id → ⊥) → held_at ts id ≡ None
  missed [] n i t f h lt is low other = absurd (omega arith)
  missed (u ∷ ts) n zero t f h lt is low other =
      let here : t.id ≡ u.id = ap (λ x. x.id) is in
      let below : t.id ≤ id = isnt_above t.id low in
      at_other u.id (Some u) (held_at ts id) (λ e. other (here ∙ sym e)) ∙ none_below ts u.id f.1 (omega arith)
  missed (u ∷ ts) n (suc i) t f h lt is low other =
      let over : id < u.id = is_above u.id (h 0 u (omega arith) (omega arith)) in
      at_other u.id (Some u) (held_at ts id) (λ e. absurd (omega arith)) ∙ missed ts u.id i t f.1 (λ k d lo high. h (suc k) d (omega arith) (omega arith)) (omega arith) is low other

-- the entries of the memtable that is found
abbrev pub entries_or : Option SeenMemtable → List Entry
entries_or None = []
entries_or (Some t) = t.entries

pub entries_at : (ts : List SeenMemtable) (i : ℕ) → entries_of ts i ≡ entries_or (held_at ts i)
entries_at [] i = refl
entries_at (t ∷ ts) i = elim (eqb i t.id) as (λ b. cond b t.entries (entries_of ts i) ≡ entries_or (cond b (Some t) (held_at ts i))) [ true ↦ refl | false ↦ entries_at ts i ]

-- a place where nothing stands is past the end
pub past_end : (i n m : ℕ) → n ≡ m → (i < n → false ≡ true) → m ≤ i
past_end i n m e h =
    let no : i < n → ⊥ = λ lt. cc (h lt) in
    omega arith

-- the first one that isn't above an id is the memtable with it, if there is one
pub found_there : (id : ℕ) (ts : List SeenMemtable) (n i : ℕ) (t : SeenMemtable) → FallFrom n (ids_of ts) → AllWithin (λ t. above id t ≡ true) ts 0 i → i < length ts → t ≡ get_or ts i t → above id t ≡ false → IsSome (held_at ts id) → held_at ts id ≡ Some t
found_there id ts n i t f h lt is low there = by_case (eqb t.id id) refl
  where
    same_id : (a b : ℕ) → eqb a b ≡ true → a ≡ b
    same_id a b e = grind (arith, nat_tests)

    other_id : (a b : ℕ) → eqb a b ≡ false → a ≡ b → ⊥
    other_id a b e same = grind (arith, nat_tests)

    by_case : (b : Bool) → eqb t.id id ≡ b → held_at ts id ≡ Some t
    by_case true e = sym (found id ts i t h lt is (same_id t.id id e))
    by_case false e = let none = missed id ts n i t f h lt is low (other_id t.id id e) in absurd (cc (none, there))

pub is_there : (o : Option SeenMemtable) → o ≡ None → IsSome o → ⊥
is_there o none some = cc (none, some)

pub there_is : (o : Option SeenMemtable) → (o ≡ None → ⊥) → IsSome o
there_is None h = absurd (h refl)
there_is (Some t) h = refl
