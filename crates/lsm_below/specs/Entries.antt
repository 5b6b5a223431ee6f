-- Entries, their order, and what they say of a key.
use Rattle.std.specs.Prelude.{◌≡◌, ℕ, ◌+◌, ◌<◌, ◌≤◌, max, Bool, true, false, ◌&&◌, ◌||◌, List, [], ◌∷◌, Option, Some, None, filter, flat_map, if◌then◌else◌, nat_lt}
use Rattle.std.specs.Ordering.{nat_cmp, on, flip_args, then_cmp}
use Rattle.std.specs.declared.cmp.Ordering.{Ordering}
use Rattle.std.specs.List.{AllByRecursion}
use Rattle.lsm_below.specs.Keys.{Bytes, AreBytes, bytes_cmp, is_same}
use Rattle.lsm_below.specs.declared.key.InternalKey.{InternalKey}
use Rattle.lsm_below.specs.declared.value.InternalValue.{InternalValue}
use Rattle.lsm_below.specs.declared.value_type.ValueType.{ValueType}
use Rattle.lsm_below.specs.declared.value_type.ValueType.TheVariants.{Value, Tombstone, WeakTombstone}

-- an entry: a key with its sequence number and type, and a value
abbrev pub Entry : Type 0
Entry = InternalValue

-- the key of an entry has the numbers of bytes
abbrev pub HasBytes : Entry → Type 0
HasBytes e = AreBytes e.key.user_key

-- the order of keys: user keys rise, and under one key the sequence numbers fall
abbrev pub key_cmp : InternalKey → InternalKey → Ordering
key_cmp = then_cmp (on (λ k. k.user_key) bytes_cmp) (flip_args (on (λ k. k.seqno) nat_cmp))

-- the order of entries is that of their keys
abbrev pub entry_cmp : Entry → Entry → Ordering
entry_cmp = on (λ e. e.key) key_cmp

-- an entry of these parts
abbrev pub entry_at : Bytes → ℕ → ValueType → Bytes → Entry
entry_at k n kind v = record { key = record { user_key = k; seqno = n; value_type = kind }; value = v }

-- the value that an entry of this type keeps: none for a tombstone of either kind
abbrev pub kept_value : ValueType → Bytes → Bytes
kept_value Value v = v
kept_value Tombstone v = []
kept_value WeakTombstone v = []

-- an entry, of which a tombstone keeps no value
abbrev pub plain : Entry → Entry
plain e = record { key = e.key; value = kept_value e.key.value_type e.value }

-- an entry that removes its key
abbrev pub tombstone_at : Bytes → ℕ → Entry
tombstone_at k n = entry_at k n Tombstone []

-- an entry that removes its key, of which at most one value was ever written
abbrev pub weak_tombstone_at : Bytes → ℕ → Entry
weak_tombstone_at k n = entry_at k n WeakTombstone []

-- ---- what an entry does to its key

-- does an entry of this type remove its key, weakly or not?
abbrev pub is_tombstone_type : ValueType → Bool
is_tombstone_type Value = false
is_tombstone_type Tombstone = true
is_tombstone_type WeakTombstone = true

-- the value that an entry of this type gives its key
abbrev pub value_by : ValueType → Bytes → Option Bytes
value_by Value v = Some v
value_by Tombstone v = None
value_by WeakTombstone v = None

-- is it the type of a value, of a tombstone, of a weak tombstone?
abbrev pub is_value_kind : ValueType → Bool
is_value_kind Value = true
is_value_kind Tombstone = false
is_value_kind WeakTombstone = false

abbrev pub is_del_kind : ValueType → Bool
is_del_kind Tombstone = true
is_del_kind Value = false
is_del_kind WeakTombstone = false

abbrev pub is_weak_kind : ValueType → Bool
is_weak_kind WeakTombstone = true
is_weak_kind Value = false
is_weak_kind Tombstone = false

-- the value that an entry gives its key
abbrev pub value_of : Entry → Option Bytes
value_of e = value_by e.key.value_type e.value

-- is the entry a value, a tombstone, a weak tombstone?
abbrev pub is_value : Entry → Bool
is_value e = is_value_kind e.key.value_type

abbrev pub is_del : Entry → Bool
is_del e = is_del_kind e.key.value_type

abbrev pub is_weak : Entry → Bool
is_weak e = is_weak_kind e.key.value_type

-- ---- the entries of one key

-- the entries of one key, in the order of the list
abbrev pub stack : Bytes → List Entry → List Entry
stack k es = filter (λ e. is_same k e.key.user_key) es

-- how many are values
abbrev pub values : List Entry → ℕ
values [] = 0
values (e ∷ es) = (if is_value e then 1 else 0) + values es

-- the least sequence number above all of these
abbrev pub above : List Entry → ℕ
above [] = 0
above (e ∷ es) = max (e.key.seqno + 1) (above es)

-- the later of two entries, the first one where equal
abbrev pub later : Entry → Option Entry → Option Entry
later e None = Some e
later e (Some f) = if nat_lt e.key.seqno f.key.seqno then Some f else Some e

-- the entry of a key with the greatest sequence number below the snapshot, in any order of the list
abbrev pub top : Bytes → ℕ → List Entry → Option Entry
top k s [] = None
top k s (e ∷ es) = if is_same k e.key.user_key && nat_lt e.key.seqno s then later e (top k s es) else top k s es

-- sequence numbers fall from each entry to all after it
abbrev pub IsFalling : List Entry → Type 0
IsFalling [] = Unit {0}
IsFalling (e ∷ es) = AllByRecursion (λ f. f.key.seqno < e.key.seqno) es × IsFalling es

-- for each key all sequence numbers in an earlier source are above those in a later one, and fall within each
abbrev pub IsOrdered : List (List Entry) → Type 0
IsOrdered sources = (k : Bytes) → IsFalling (stack k (flat_map (λ es. es) sources))

-- no weak tombstone has two values after it
abbrev pub IsSingle : List Entry → Type 0
IsSingle [] = Unit {0}
IsSingle (e ∷ es) = (is_weak e ≡ true → values es ≤ 1) × IsSingle es

-- what a compaction keeps of one key's entries, by falling sequence number
abbrev pub keep : ℕ → Bool → List Entry → List Entry
keep w evict [] = []
keep w evict (e ∷ []) = if evict && (is_del e || is_weak e) then [] else e ∷ []
keep w evict (e ∷ (f ∷ rest)) =
    if nat_lt f.key.seqno w
    then (if evict && is_del e || is_weak e && is_value f then [] else e ∷ [])
    else (e ∷ keep w evict (f ∷ rest))
