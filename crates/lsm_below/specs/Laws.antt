-- How keys, entries and merges hang together: each the contract of a function in `laws.rt`.
use Rattle.std.specs.Prelude.{◌≡◌, ℕ, ◌-◌, ◌<◌, ◌≤◌, true, false, not, List, Some, None, map, length, take, drop, slice_index_or}
use Rattle.std.specs.List.{AllByRecursion}
use Rattle.std.specs.List.Sorted.{IsPartitionedBy, IsPartitionPoint}
use Rattle.std.specs.Cmp.{IsTotalOrder}
use Rattle.std.specs.Ordering.{is_eq, is_le, is_lt}
use Rattle.std.specs.declared.cmp.Ordering.TheVariants.{Less}
use Rattle.std.specs.declared.ops.Bound.{Bound}
use Rattle.lsm_below.specs.Keys.{Bytes, bytes_cmp, is_below}
use Rattle.lsm_below.specs.Ranges.{Range, IsRange, in_range}
use Rattle.lsm_below.specs.Entries.{Entry, entry_cmp, stack, top}
use Rattle.lsm_below.specs.Sorted.{Rises, first}
use Rattle.lsm_below.specs.Streams.{IsInOrder, IsByKey, Merges, first_of, is_of}
use Rattle.lsm_below.specs.Slots.{same_key, merged, firsts}
use Rattle.lsm_below.specs.Lookups.{is_visible, stands_before, is_from, is_to, within, IsTop, HasNone, IsParting}

-- user keys are ordered, by what is below what and by what is not above what
pub record KeysAreOrdered : Type 0 where
  pub itself : (a : Bytes) → is_below a a ≡ false
  pub upto : (a b c : Bytes) → is_below b a ≡ false → is_below c b ≡ false → is_below c a ≡ false
  pub then_upto : (a b c : Bytes) → is_below a b ≡ true → is_below c b ≡ false → is_below a c ≡ true
  pub upto_then : (a b c : Bytes) → is_below b a ≡ false → is_below b c ≡ true → is_below a c ≡ true
  pub le_trans : (a b c : Bytes) → is_le (bytes_cmp a b) ≡ true → is_le (bytes_cmp b c) ≡ true → is_le (bytes_cmp a c) ≡ true
  pub le_of_lt : (a b : Bytes) → is_lt (bytes_cmp a b) ≡ true → is_le (bytes_cmp a b) ≡ true
  pub le_of_not_lt : (a b : Bytes) → is_lt (bytes_cmp b a) ≡ false → is_le (bytes_cmp a b) ≡ true
  pub range : (r : Range) → is_below r.max r.min ≡ false → IsRange r
  pub in_range : (k : Bytes) (r : Range) → is_below k r.min ≡ false → is_below r.max k ≡ false → in_range k r ≡ true

-- entries are ordered, by user key and under one key by falling sequence number
pub record EntriesAreOrdered : Type 0 where
  pub total : IsTotalOrder entry_cmp
  pub rises : (es : List Entry) (i j : ℕ) (d : Entry) → Rises entry_cmp es → i < j → j < length es → entry_cmp (slice_index_or es i d) (slice_index_or es j d) ≡ Less
  pub keys : (e f : Entry) → entry_cmp e f ≡ Less → is_below f.key.user_key e.key.user_key ≡ false
  pub keys_apart : (e f : Entry) → entry_cmp e f ≡ Less → same_key e f ≡ false → is_below e.key.user_key f.key.user_key ≡ true
  pub apart : (e f : Entry) → is_below e.key.user_key f.key.user_key ≡ true → same_key e f ≡ false
  pub alike : (k : Bytes) (e f : Entry) → is_of k e ≡ true → is_of k f ≡ true → same_key e f ≡ true
  pub number_falls : (e f : Entry) → same_key e f ≡ true → is_le (entry_cmp e f) ≡ true → f.key.seqno ≤ e.key.seqno

-- of entries that rise, the first that is visible is the newest one of its key
pub record FirstVisibleIsTop : Type 0 where
  pub found : (es : List Entry) (key : Bytes) (s : ℕ) (e : Entry) → Rises entry_cmp es → first (is_visible key s) es ≡ Some e → IsTop es key s e
  pub none : (es : List Entry) (key : Bytes) (s : ℕ) → first (is_visible key s) es ≡ None → HasNone es key s

-- a place parts entries that rise: a look-up there finds what a walk would, and so do two places for bounds
pub record EntriesAreParted : Type 0 where
  pub ahead : (es : List Entry) (key : Bytes) (s : ℕ) → Rises entry_cmp es → IsPartitionedBy (stands_before key s) es
  pub past_end : (es : List Entry) (key : Bytes) (s at : ℕ) → Rises entry_cmp es → IsParting es key s at → length es ≤ at → first (is_visible key s) es ≡ None
  pub found : (es : List Entry) (key : Bytes) (s at : ℕ) (e : Entry) → Rises entry_cmp es → IsParting es key s at → at < length es → e ≡ slice_index_or es at e → is_eq (bytes_cmp e.key.user_key key) ≡ true → first (is_visible key s) es ≡ Some e
  pub other : (es : List Entry) (key : Bytes) (s at : ℕ) (e : Entry) → Rises entry_cmp es → IsParting es key s at → at < length es → e ≡ slice_index_or es at e → is_eq (bytes_cmp e.key.user_key key) ≡ false → first (is_visible key s) es ≡ None
  pub newest : (es : List Entry) (key : Bytes) (s : ℕ) → Rises entry_cmp es → first (is_visible key s) es ≡ top key s es
  pub within : (es : List Entry) (low high : Bound Bytes) (start end : ℕ) → IsPartitionPoint (λ e. not (is_from low e.key.user_key) ≡ true) (λ e. not (is_from low e.key.user_key) ≡ false) es start
      → IsPartitionPoint (λ e. is_to high e.key.user_key ≡ true) (λ e. is_to high e.key.user_key ≡ false) es end → within low high es ≡ take (end - start) (drop start es)

-- lists in order are merged key by key, and the first entries of each key stand in order
pub record MergesByKey : Type 0 where
  pub merges : (lists : List (List Entry)) → AllByRecursion IsInOrder lists → Merges lists (merged lists)
  pub stacks : (lists : List (List Entry)) → AllByRecursion IsInOrder lists → (k : Bytes) → Merges (map (stack k) lists) (stack k (merged lists))
  pub firsts : (es : List Entry) → IsInOrder es → IsByKey first_of es (firsts es)
