-- Memtables that are held, by their ids.
use Rattle.std.proofs.Common.{◌≡◌, ℕ, ◌<◌, ◌≤◌, Bool, true, false, cond, ◌||◌, List, [], ◌∷◌, Some, None, take, length, zero, suc, get_or, refl, sym, ap, ◌∙◌, subst, arith, eqb, leb}
use Rattle.std.proofs.lemmas.Bool.Decides.{nat_tests}
use Rattle.std.specs.List.{AllByRecursion, AllWithin}
use Rattle.std.specs.List.Sorted.{IsPartitionedBy, IsPartitionPoint}
use Rattle.lsm_tables.specs.Cutting.{IsWritable}
use Rattle.lsm_memtable.specs.Memtables.{SeenMemtable}
use Rattle.lsm_parts.specs.Held.{entries_of, held_at, ids_of, FallFrom, is_among, IsSealedIn}
use Rattle.lsm_parts.specs.Held.{from_id}
use Rattle.lsm_parts.proofs.Finding.{all_lower, entries_or, entries_at}

-- ---- one by its id

not_same : (i j : ℕ) → i < j → eqb i j ≡ false
not_same i j lt = grind (arith, nat_tests)

same_id : (i j : ℕ) → eqb i j ≡ true → j ≡ i
same_id i j h = grind (arith, nat_tests)

held_is : (P : SeenMemtable → Type 0) (ts : List SeenMemtable) (i : ℕ) (m : SeenMemtable) → AllByRecursion P ts → held_at ts i ≡ Some m → (m.id ≡ i) × P m
held_is P [] i m all h = absurd (cc h)
held_is P (t ∷ ts) i m all h = by_case (held_is P ts i m all.1) (eqb i t.id) refl h
  where
    some_same : (x y : SeenMemtable) → Some x ≡ Some y → x ≡ y
    some_same x y e = cc e

    by_case : (held_at ts i ≡ Some m → (m.id ≡ i) × P m) → (b : Bool) → eqb i t.id ≡ b → cond b (Some t) (held_at ts i) ≡ Some m → (m.id ≡ i) × P m
    by_case rest true e is = subst (λ x. (x.id ≡ i) × P x) (some_same t m is) (same_id i t.id e, all.0)
    by_case rest false e is = rest is

held_some : (ts : List SeenMemtable) (i : ℕ) → is_among (ids_of ts) i ≡ true → held_at ts i ≡ None → ⊥
held_some [] i among none = cc among
held_some (t ∷ ts) i among none = by_case (held_some ts i) (eqb i t.id) among none
  where
    by_case : (is_among (ids_of ts) i ≡ true → held_at ts i ≡ None → ⊥) → (b : Bool) → (b || is_among (ids_of ts) i) ≡ true → cond b (Some t) (held_at ts i) ≡ None → ⊥
    by_case rest true a n = cc n
    by_case rest false a n = rest a n

module _ (a : SeenMemtable) (ts : List SeenMemtable) (i : ℕ) (is_sealed : IsSealedIn (a ∷ ts) i) where
  other : eqb i a.id ≡ false
  other = not_same i a.id is_sealed.1

  behind : held_at (a ∷ ts) i ≡ held_at ts i
  behind = ap (λ b. cond b (Some a) (held_at ts i)) other

  pub sealed_found : held_at ts i ≡ None → ⊥
  sealed_found none = held_some (a ∷ ts) i is_sealed.0 (behind ∙ none)

  pub sealed_one : (m : SeenMemtable) → AllByRecursion (λ t. IsWritable t.entries) (a ∷ ts) → held_at ts i ≡ Some m → (m.id ≡ i) × ((m.entries ≡ entries_of (a ∷ ts) i) × IsWritable m.entries)
  sealed_one m all is =
      let one = held_is (λ t. IsWritable t.entries) ts i m all.1 is in
      (one.0, (sym (entries_at (a ∷ ts) i ∙ ap entries_or (behind ∙ is)), one.1))

-- ---- one that isn't the first

module _ (a : SeenMemtable) (ts : List SeenMemtable) (i : ℕ) (other : a.id ≡ i → ⊥) where
  is_other : eqb i a.id ≡ false
  is_other = grind (arith, nat_tests, other)

  entries_behind : entries_of (a ∷ ts) i ≡ entries_or (held_at ts i)
  entries_behind = ap (λ b. cond b a.entries (entries_of ts i)) is_other ∙ entries_at ts i

  pub found_behind : (m : SeenMemtable) → held_at ts i ≡ Some m → m.entries ≡ entries_of (a ∷ ts) i
  found_behind m is = sym (entries_behind ∙ ap entries_or is)

  pub none_behind : held_at ts i ≡ None → entries_of (a ∷ ts) i ≡ []
  none_behind is = entries_behind ∙ ap entries_or is

-- ---- those from an id on

module _ (n : ℕ) where
  abbrev is_from : SeenMemtable → Bool
  is_from t = leb n t.id

  not_later : (i j : ℕ) → j < i → leb n j ≡ true → leb n i ≡ true
  not_later i j lt h = grind (arith, nat_tests)

  pub from_first : (ts : List SeenMemtable) (m : ℕ) → FallFrom m (ids_of ts) → IsPartitionedBy is_from ts
  from_first [] m h i j d le lt is = absurd (omega arith)
  from_first (t ∷ ts) m h zero zero d le lt is = is
  from_first (t ∷ ts) m h zero (suc j) d le lt is = not_later t.id (get_or ts j d).id (all_lower t.id ts t.id j d h.1 (omega arith)) is
  from_first (t ∷ ts) m h (suc i) zero d le lt is = absurd (omega arith)
  from_first (t ∷ ts) m h (suc i) (suc j) d le lt is = from_first ts t.id h.1 i j d (omega arith) (omega arith) is

  none_from : (ts : List SeenMemtable) → AllWithin (λ t. is_from t ≡ false) ts 0 (length ts) → from_id n ts ≡ []
  none_from [] h = refl
  none_from (t ∷ ts) h = ap (λ b. cond b (t ∷ from_id n ts) (from_id n ts)) (h 0 t (omega arith) (omega arith)) ∙ none_from ts (λ k d low high. h (suc k) d (omega arith) (omega arith))

  pub taken_from : (ts : List SeenMemtable) (k : ℕ) → IsPartitionPoint (λ t. is_from t ≡ true) (λ t. is_from t ≡ false) ts k → take k ts ≡ from_id n ts
  taken_from [] zero point = refl
  taken_from [] (suc k) point = refl
  taken_from (t ∷ ts) zero point = sym (none_from (t ∷ ts) point.1)
  taken_from (t ∷ ts) (suc k) point =
      ap (λ l. t ∷ l) (taken_from ts k (λ i d low high. point.0 (suc i) d (omega arith) (omega arith), λ i d low high. point.1 (suc i) d (omega arith) (omega arith)))
      ∙ sym (ap (λ b. cond b (t ∷ from_id n ts) (from_id n ts)) (point.0 0 t (omega arith) (omega arith)))

  pub from_active : (a : SeenMemtable) (ts : List SeenMemtable) → n ≤ a.id → a ∷ from_id n ts ≡ from_id n (a ∷ ts)
  from_active a ts le = sym (ap (λ b. cond b (a ∷ from_id n ts) (from_id n ts)) (there a.id le))
    where
      there : (i : ℕ) → n ≤ i → leb n i ≡ true
      there i le = grind (arith, nat_tests)

pub all_taken : (P : SeenMemtable → Type 0) (ts : List SeenMemtable) (k : ℕ) → AllByRecursion P ts → AllByRecursion P (take k ts)
all_taken P [] zero h = tt
all_taken P [] (suc k) h = tt
all_taken P (t ∷ ts) zero h = tt
all_taken P (t ∷ ts) (suc k) h = (h.0, all_taken P ts k h.1)

pub fall_taken : (ts : List SeenMemtable) (m k : ℕ) → FallFrom m (ids_of ts) → FallFrom m (ids_of (take k ts))
fall_taken [] m zero h = tt
fall_taken [] m (suc k) h = tt
fall_taken (t ∷ ts) m zero h = tt
fall_taken (t ∷ ts) m (suc k) h = (h.0, fall_taken ts t.id k h.1)
