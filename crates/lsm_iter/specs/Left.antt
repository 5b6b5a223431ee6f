-- What cursors have left, and what it shows.
use Rattle.std.specs.Prelude.{◌≡◌, ℕ, cond, List, [], ◌∷◌, ◌++◌, length, map, flat_map, filter, sum_by, Option, Some, None, MatchOption, option_to_list, nat_lt}
use Rattle.std.specs.declared.ops.Bound.{Bound}
use Rattle.lsm_below.specs.Keys.{Bytes, bytes_cmp}
use Rattle.lsm_below.specs.Entries.{Entry, stack, is_value, later}
use Rattle.lsm_below.specs.Slots.{firsts}
use Rattle.lsm_below.specs.Sorted.{by_ordering}
use Rattle.lsm_iter.specs.Reads.{Part, SeenState, counted, cut, at}
use Rattle.lsm_iter.specs.Ends.{IsTaken}
use Rattle.lsm_iter.specs.declared.tree_iter.End.{End}
use Rattle.lsm_iter.specs.declared.tree_iter.End.TheVariants.{Front, Back}

-- of entries in order the newest of each key that counts
abbrev pub tops : Part → List Entry
tops part = firsts (counted part)

-- ---- cursors

-- a cursor: the entries that are left, one of each key, by rising key, and how many entries it owns
pub record SeenCursor : Type 0 where
  pub left : List Entry
  pub held : ℕ

-- a cursor over copies
abbrev pub copies_of : Part → SeenCursor
copies_of part = record { left = tops part; held = length (tops part) }

-- the entries that are left of all cursors
abbrev pub left_of : List SeenCursor → List Entry
left_of cursors = flat_map (λ c. c.left) cursors

-- how many entries all cursors own
abbrev pub held_in : List SeenCursor → ℕ
held_in cursors = sum_by (λ c. c.held) cursors

-- ---- what entries show, as one list

-- the first of the entries with the greatest sequence number
abbrev pub newest_in : List Entry → Option Entry
newest_in [] = None
newest_in (e ∷ es) = later e (newest_in es)

-- what is shown of a key: its newest entry, if that is a value
abbrev pub shown_at : Bytes → List Entry → List Entry
shown_at k es = filter is_value (option_to_list (newest_in (stack k es)))

-- the list with e in its key's place, unless a newer entry stands there
abbrev pub put_newest : Entry → List Entry → List Entry
put_newest e [] = e ∷ []
put_newest e (f ∷ fs) = by_ordering (bytes_cmp f.key.user_key e.key.user_key) (f ∷ put_newest e fs) (cond (nat_lt e.key.seqno f.key.seqno) (f ∷ fs) (e ∷ fs)) (e ∷ (f ∷ fs))

-- the newest entry of each key, by rising key; of entries with one key and sequence number the first
abbrev pub newest_each : List Entry → List Entry
newest_each [] = []
newest_each (e ∷ es) = put_newest e (newest_each es)

-- the values among them: what the entries show
abbrev pub shown_list : List Entry → List Entry
shown_list es = filter is_value (newest_each es)

-- ---- ends

-- the first entry, or the last
abbrev pub last_item : List Entry → Option Entry
last_item [] = None
last_item (e ∷ []) = Some e
last_item (e ∷ (f ∷ es)) = last_item (f ∷ es)

abbrev pub end_item : End → List Entry → Option Entry
end_item Front [] = None
end_item Front (e ∷ es) = Some e
end_item Back es = last_item es

-- the entry at this end is taken off; none where there is none
abbrev pub Takes : End → List Entry → Option Entry → List Entry → Type 0
Takes end s None t = (s ≡ []) × (t ≡ [])
Takes end s (Some e) t = IsTaken end s e t

-- the entry at this end is taken off, and is given if it is a value; none where there is none
abbrev pub TakesValue : End → List Entry → Option Entry → List Entry → Type 0
TakesValue end s v t = MatchOption (end_item end s) ((v ≡ None) × (s ≡ []) × (t ≡ [])) (λ e. IsTaken end s e t × (option_to_list v ≡ filter is_value (e ∷ [])))

-- ---- what an iterator is

-- what is still to be shown, and how many entries the iterator owns
pub record SeenIter : Type 0 where
  pub left : List Entry
  pub held : ℕ

-- what cursors still show, and own
abbrev pub iter_of : List SeenCursor → SeenIter
iter_of cursors = record { left = shown_list (left_of cursors); held = held_in cursors }

-- what is copied of a source: of each key within bounds the newest entry that counts
abbrev pub copied : Bound Bytes → Bound Bytes → Part → List Entry
copied low high part = tops (cut low high part)

-- what is copied of parts
abbrev pub copies : Bound Bytes → Bound Bytes → List Part → List Entry
copies low high parts = flat_map (copied low high) parts

-- how many entries are copied of the index and the memtables
abbrev pub copied_within : Bound Bytes → Bound Bytes → ℕ → SeenState → ℕ
copied_within low high s st = length (copies low high (option_to_list st.overlay ++ map (at s) st.memtables))
