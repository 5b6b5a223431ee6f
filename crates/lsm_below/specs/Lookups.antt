-- What a look-up finds in entries that rise.
use Rattle.std.specs.Prelude.{◌≡◌, ℕ, ◌<◌, ◌≤◌, Bool, true, false, List, length, slice_index_or, nat_le, nat_lt, cond, filter, ◌&&◌}
use Rattle.std.specs.List.{Contains}
use Rattle.std.specs.Ordering.{is_eq, is_le, is_lt}
use Rattle.std.specs.declared.ops.Bound.{Bound}
use Rattle.std.specs.declared.ops.Bound.TheVariants.{Included, Excluded, Unbounded}
use Rattle.lsm_below.specs.Keys.{Bytes, bytes_cmp}
use Rattle.lsm_below.specs.Sorted.{by_ordering}
use Rattle.lsm_below.specs.Entries.{Entry}

-- has the entry this key, and a sequence number below the snapshot?
abbrev pub is_visible : Bytes → ℕ → Entry → Bool
is_visible key snapshot e = cond (is_eq (bytes_cmp e.key.user_key key)) (nat_lt e.key.seqno snapshot) false

-- does the entry come before each entry of the key with a sequence number below this?
abbrev pub stands_before : Bytes → ℕ → Entry → Bool
stands_before key number e = by_ordering (bytes_cmp e.key.user_key key) true (nat_le number e.key.seqno) false

-- at a place end the entries that come before each entry of the key with a sequence number below this
pub record IsParting (entries : List Entry) (key : Bytes) (number at : ℕ) : Type 0 where
  pub before : (j : ℕ) (d : Entry) → j < at → stands_before key number (slice_index_or entries j d) ≡ true
  pub behind : (j : ℕ) (d : Entry) → at ≤ j → j < length entries → stands_before key number (slice_index_or entries j d) ≡ false

-- e is the entry of the key with the greatest sequence number below the snapshot
pub record IsTop (entries : List Entry) (key : Bytes) (snapshot : ℕ) (e : Entry) : Type 0 where
  pub there : Contains entries e
  pub key_is : e.key.user_key ≡ key
  pub below : e.key.seqno < snapshot
  pub greatest : (f : Entry) → Contains entries f → f.key.user_key ≡ key → f.key.seqno < snapshot → f.key.seqno ≤ e.key.seqno

-- no entry of the key has a sequence number below the snapshot
abbrev pub HasNone : List Entry → Bytes → ℕ → Type 0
HasNone entries key snapshot = (f : Entry) → Contains entries f → f.key.user_key ≡ key → f.key.seqno < snapshot → ⊥

-- does the key lie within the lower bound?
abbrev pub is_from : Bound Bytes → Bytes → Bool
is_from (Included low) k = is_le (bytes_cmp low k)
is_from (Excluded low) k = is_lt (bytes_cmp low k)
is_from Unbounded k = true

-- does the key lie within the upper bound?
abbrev pub is_to : Bound Bytes → Bytes → Bool
is_to (Included high) k = is_le (bytes_cmp k high)
is_to (Excluded high) k = is_lt (bytes_cmp k high)
is_to Unbounded k = true

-- the entries whose keys lie within the bounds
abbrev pub within : Bound Bytes → Bound Bytes → List Entry → List Entry
within low high entries = filter (λ e. is_from low e.key.user_key && is_to high e.key.user_key) entries
