-- Tables as callers see them, and what is counted of their entries.
use Rattle.std.specs.Prelude.{◌≡◌, ℕ, ◌+◌, max, Bool, true, false, ◌&&◌, List, [], ◌∷◌, length, filter}
use Rattle.std.specs.List.{AllByRecursion}
use Rattle.lsm_below.specs.Keys.{Bytes}
use Rattle.lsm_below.specs.Ranges.{Range, in_range}
use Rattle.lsm_below.specs.Entries.{Entry, is_tombstone_type, is_value, is_weak}
use Rattle.lsm_below.specs.Slots.{same_key}
use Rattle.lsm_below.specs.Heads.{AreHeads}
use Rattle.lsm_tables.specs.Image.{IsTable, image, entry_bytes}
use Rattle.lsm_tables.specs.Sum.{sum_of}
use Rattle.lsm_tables.specs.declared.table.counts.Counts.{Counts}
use Rattle.lsm_tables.specs.declared.table.TableInner.{TableInner}

-- a table: its id, when it was made, and its entries
pub record SeenTable : Type 0 where
  pub id : ℕ
  pub created_at : ℕ
  pub entries : List Entry

-- the first and the last user key
abbrev pub first_key : List Entry → Bytes
first_key [] = []
first_key (e ∷ es) = e.key.user_key

abbrev pub last_key : List Entry → Bytes
last_key [] = []
last_key (e ∷ []) = e.key.user_key
last_key (e ∷ (f ∷ es)) = last_key (f ∷ es)

-- the range of keys from the first entry's to the last one's
abbrev pub range_of : List Entry → Range
range_of es = record { min = first_key es; max = last_key es }

-- each entry's key is in the range
abbrev pub IsCovered : List Entry → Range → Type 0
IsCovered es range = AllByRecursion (λ e. in_range e.key.user_key range ≡ true) es

-- the greatest sequence number, 0 where there is no entry
abbrev pub greatest : List Entry → ℕ
greatest [] = 0
greatest (e ∷ es) = max e.key.seqno (greatest es)

-- each entry but the last one, with the entry after it
abbrev pub neighbours : List Entry → List (Entry × Entry)
neighbours [] = []
neighbours (e ∷ []) = []
neighbours (e ∷ (f ∷ es)) = (e, f) ∷ neighbours (f ∷ es)

-- is the first a weak tombstone, and the second a value of its key?
abbrev pub is_reclaimable : Entry × Entry → Bool
is_reclaimable p = is_weak p.0 && (same_key p.0 p.1 && is_value p.1)

-- is e a weak tombstone, directly above a value of its key?
abbrev pub stands_on_value : Entry → List Entry → Bool
stands_on_value e [] = false
stands_on_value e (f ∷ es) = is_reclaimable (e, f)

-- how many entries remove their key, weakly or not
abbrev pub tombstones : List Entry → ℕ
tombstones es = length (filter (λ e. is_tombstone_type e.key.value_type) es)

-- how many remove it weakly
abbrev pub weak_tombstones : List Entry → ℕ
weak_tombstones es = length (filter is_weak es)

-- how many weak tombstones stand directly above a value of their key
abbrev pub reclaimable : List Entry → ℕ
reclaimable es = length (filter is_reclaimable (neighbours es))

-- what is counted of entries
pub record IsCountOf (es : List Entry) (c : Counts) : Type 0 where
  pub highest : c.highest ≡ greatest es
  pub tombstones : c.tombstones ≡ tombstones es
  pub weak : c.weak ≡ weak_tombstones es
  pub reclaimable : c.reclaimable ≡ reclaimable es

-- what is kept beside a table's entries is what follows from them
pub record IsKeptTable (inner : TableInner) : Type 0 where
  pub table : IsTable inner.entries.items
  pub heads : AreHeads inner.heads.items inner.entries.items
  pub range : inner.key_range ≡ range_of inner.entries.items
  pub size : inner.file_size ≡ 20 + entry_bytes inner.entries.items
  pub sum : inner.checksum.0 ≡ sum_of (image inner.created_at inner.entries.items)
  pub counts : IsCountOf inner.entries.items inner.counts
