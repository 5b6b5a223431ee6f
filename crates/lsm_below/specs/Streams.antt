-- Streams of entries in order, and what a merge and a compaction make of them.
use Rattle.std.specs.Prelude.{◌≡◌, ℕ, Bool, true, false, not, ◌&&◌, ◌||◌, cond, filter, flat_map, take, List, [], ◌∷◌, Option, Some, None, Result, Ok, Err, nat_eq}
use Rattle.std.specs.declared.cmp.Ordering.{Ordering}
use Rattle.std.specs.Ordering.{is_le}
use Rattle.std.specs.List.{AllByRecursion, AllByRecursion-prop}
use mathlib.Core.Bool.{Bool-set}
use mathlib.Core.HLevel.{×_prop, Unit-prop}
use Rattle.std.specs.List.Sorted.{IsPermutation}
use Rattle.lsm_below.specs.Keys.{Bytes, is_same}
use Rattle.lsm_below.specs.Entries.{Entry, entry_cmp, stack, keep, is_value, is_del, is_weak}

-- ---- lists in order

-- each item is not above any later one
abbrev pub Ascends : {X : Type 0} → (X → X → Ordering) → List X → Type 0
Ascends R [] = Unit {0}
Ascends R (x ∷ xs) = AllByRecursion (λ y. is_le (R x y) ≡ true) xs × Ascends R xs

-- a list ascends in one way alone
pub Ascends-prop : {X : Type 0} (R : X → X → Ordering) (xs : List X) → IsProp (Ascends R xs)
Ascends-prop R [] = Unit-prop
Ascends-prop R (x ∷ xs) = ×_prop (AllByRecursion-prop _ (λ y. Bool-set _ _) xs) (Ascends-prop R xs)

-- keys rise, and under one key the sequence numbers fall; entries of one key and sequence number may stand side by side
abbrev pub IsInOrder : List Entry → Type 0
IsInOrder es = Ascends entry_cmp es

-- whether the entry has this key
abbrev pub is_of : Bytes → Entry → Bool
is_of k e = is_same k e.key.user_key

-- an ordered merge: each entry of all lists as often as it came, in order
pub record Merges (lists : List (List Entry)) (merged : List Entry) : Type 0 where
  pub same : IsPermutation (flat_map (λ l. l) lists) merged
  pub in_order : IsInOrder merged

-- the keys in order, each with what f makes of its entries, and nothing else
pub record IsByKey (f : List Entry → List Entry) (es out : List Entry) : Type 0 where
  pub in_order : IsInOrder out
  pub stacks : (k : Bytes) → stack k out ≡ f (stack k es)

-- the first entry
abbrev pub first_of : List Entry → List Entry
first_of es = take 1 es

-- ---- what a compaction keeps

-- of entries with equal sequence numbers the first that comes
abbrev pub distinct : List Entry → List Entry
distinct [] = []
distinct (e ∷ es) = e ∷ filter (λ f. not (nat_eq e.key.seqno f.key.seqno)) (distinct es)

-- whether an entry is dropped that has no older one of its key after it
abbrev pub goes_alone : Bool → Entry → Bool
goes_alone evict e = evict && (is_del e || is_weak e)

-- whether e is dropped, where the next one, f, is below the watermark
abbrev pub goes_with : Bool → Entry → Entry → Bool
goes_with evict e f = evict && is_del e || is_weak e && is_value f

-- the entry, unless it goes
abbrev pub unless : Bool → Entry → List Entry
unless goes e = cond goes [] (e ∷ [])

-- what a compaction keeps of one key's entries, where sequence numbers may be equal
abbrev pub keep_distinct : ℕ → Bool → List Entry → List Entry
keep_distinct w evict es = keep w evict (distinct es)

-- what a compaction keeps of lists, whatever the sequence numbers: of each key, what is kept of some merge of all entries
pub record KeepsOfMerge (w : ℕ) (evict : Bool) (lists : List (List Entry)) (out : List Entry) : Type 0 where
  pub merged : List Entry
  pub merges : Merges lists merged
  pub kept : IsByKey (keep_distinct w evict) merged out

-- ---- streams

-- what a stream has left, and whether it has ended
pub record Rest : Type 0 where
  pub entries : List Entry
  pub over : Bool

-- nothing is left
abbrev pub ended : Rest
ended = record { entries = []; over = true }

-- a compaction: the entries still to be read, its settings, and whether it has ended
pub record Compacting : Type 0 where
  pub input : List Entry
  pub watermark : ℕ
  pub evict : Bool
  pub over : Bool

-- a call's refusal, if it is one, is of these
abbrev pub RefusesOnly : {I E : Type 0} → (E → Type 0) → Option (Result I E) → Type 0
RefusesOnly may None = Unit {0}
RefusesOnly may (Some (Ok e)) = Unit {0}
RefusesOnly may (Some (Err x)) = may x

-- one call: nothing, where nothing is left; what shows the first of what is left; or a refusal, which ends the stream
abbrev pub Gives : {I E : Type 0} → (I → Entry) → Rest → Option (Result I E) → Rest → Type 0
Gives shows s None t = (s.entries ≡ []) × (t ≡ ended)
Gives shows s (Some (Ok e)) t = (s.over ≡ false) × (s.entries ≡ shows e ∷ t.entries) × (t.over ≡ false)
Gives shows s (Some (Err x)) t = (s.over ≡ false) × (t ≡ ended)
