-- What the streams' fields stand for.
use Rattle.std.specs.Prelude.{◌≡◌, Bool, true, false, not, ◌&&◌, ◌||◌, cond, List, [], ◌∷◌, ◌++◌, Option, Some, None, option_to_list, is_some, nat_lt, nat_eq, ℕ, ◌+◌, ◌*◌, ◌<◌, ◌≤◌, length, slice_index, slice_index_or}
use Rattle.std.specs.List.{All, IsDistinct, list_any}
use Rattle.std.specs.Iterator.{Count, at_most}
use Rattle.std.specs.Ordering.{is_lt}
use Rattle.lsm_below.specs.Entries.{Entry, entry_cmp}
use Rattle.lsm_below.specs.Streams.{Rest, ended, Compacting, is_of, goes_alone, goes_with, unless}

-- x goes before the first of ys that isn't below it
abbrev pub place_front : {X : Type 0} → (X → X → Bool) → X → (List X → List X) → List X → List X
place_front lt x next [] = x ∷ next []
place_front lt x next (y ∷ ys) = cond (lt y x) (y ∷ place_front lt x next ys) (x ∷ next (y ∷ ys))

-- two lists merged, the first list's items first where they tie
abbrev pub merge : {X : Type 0} → (X → X → Bool) → List X → List X → List X
merge lt [] ys = ys
merge lt (x ∷ xs) ys = place_front lt x (merge lt xs) ys

-- all lists merged
abbrev pub merged_by : {X : Type 0} → (X → X → Bool) → List (List X) → List X
merged_by lt [] = []
merged_by lt (l ∷ ls) = merge lt l (merged_by lt ls)

-- whether e comes before f
abbrev pub is_before : Entry → Entry → Bool
is_before e f = is_lt (entry_cmp e f)

-- the entries of all lists, in order
abbrev pub merged : List (List Entry) → List Entry
merged lists = merged_by is_before lists

-- an entry that is there goes before none
abbrev pub head_before : Option Entry → Option Entry → Bool
head_before None g = false
head_before (Some e) None = true
head_before (Some e) (Some f) = is_before e f

-- a pending entry and what comes after it
abbrev pub all_of : Option Entry → List Entry → List Entry
all_of head es = option_to_list head ++ es

-- whether the slot at a stands before the one at b: by their heads, and where these tie, by the indexes
abbrev pub slot_before : List (Option Entry) → ℕ → ℕ → Bool
slot_before heads a b =
    cond (nat_lt a b) (not (head_before (slice_index_or heads b None) (slice_index_or heads a None))) (head_before (slice_index_or heads a None) (slice_index_or heads b None))

-- no index stands before the one above it, which is at p for the places 2 p + 1 and 2 p + 2, where p is from low on
abbrev pub IsHeapFrom : (ℕ → ℕ → Bool) → ℕ → List ℕ → Type 0
IsHeapFrom before low order = (p k : ℕ) → low ≤ p → p * 2 + 1 ≤ k → k ≤ p * 2 + 2 → k < length order → before (slice_index order k) (slice_index order p) ≡ false

-- the indexes of slots are a heap, once the heads at its first places, so many, are there; slots outside have nothing left
abbrev pub IsQueue : List (Option Entry) → List (List Entry) → List ℕ → ℕ → Type 0
IsQueue heads lists order waiting =
    (IsDistinct nat_eq order × All (λ i. i < length heads) order)
    × (waiting ≤ length order)
    × IsHeapFrom (slot_before heads) waiting order
    × ((p : ℕ) → waiting ≤ p → p < length order → is_some (slice_index_or heads (slice_index order p) None) ≡ true)
    × ((i : ℕ) → i < length heads → list_any (nat_eq i) order ≡ false → length (slice_index_or lists i []) ≡ 0)

-- a stream over what is left
abbrev pub rest_of : Bool → List Entry → Rest
rest_of over es = cond over ended (record { entries = es; over = false })

-- whether two entries have one key
abbrev pub same_key : Entry → Entry → Bool
same_key e f = is_of e.key.user_key f

-- whether f only repeats e: its key, or also its sequence number
abbrev pub is_repeat : Bool → Entry → Entry → Bool
is_repeat numbers e f = same_key e f && (not numbers || nat_eq e.key.seqno f.key.seqno)

-- without the first entries that repeat e
abbrev pub past : Bool → Entry → List Entry → List Entry
past numbers e [] = []
past numbers e (f ∷ es) = cond (is_repeat numbers e f) (past numbers e es) (f ∷ es)

-- the entries whose key isn't that of the entry before, the first of which is e
abbrev pub changes : Entry → List Entry → List Entry
changes e [] = []
changes e (f ∷ es) = cond (same_key e f) (changes e es) (f ∷ changes f es)

-- the first entry of each key
abbrev pub firsts : List Entry → List Entry
firsts [] = []
firsts (e ∷ es) = e ∷ changes e es

-- what is kept from e on; where passing, the rest of its key goes
abbrev pub kept_from : ℕ → Bool → Bool → Entry → List Entry → List Entry
kept_from w evict passing e [] = cond passing [] (unless (goes_alone evict e) e)
kept_from w evict passing e (f ∷ es) =
    cond (same_key e f)
    (cond passing (kept_from w evict true e es)
    (cond (nat_eq e.key.seqno f.key.seqno) (kept_from w evict false e es)
    (cond (nat_lt f.key.seqno w) (unless (goes_with evict e f) e ++ kept_from w evict true f es) (e ∷ kept_from w evict false f es))))
    (cond passing [] (unless (goes_alone evict e) e) ++ kept_from w evict false f es)

-- what is kept of a list in order
abbrev pub compacted : ℕ → Bool → List Entry → List Entry
compacted w evict [] = []
compacted w evict (e ∷ es) = kept_from w evict false e es

-- what a compaction gives from here on
abbrev pub left_of : Compacting → Rest
left_of c = rest_of c.over (compacted c.watermark c.evict c.input)

-- how many items come before the end: each entry, and maybe a refusal
abbrev pub calls_left : Rest → Count
calls_left s = at_most (cond s.over 0 (length s.entries + 1))

-- whether an entry may stand in front of a list
abbrev pub fits_front : Entry → List Entry → Bool
fits_front e [] = true
fits_front e (f ∷ es) = not (is_before f e)
