-- What callers did to a tree, and what reads are to answer: folds over one list of events.
use Rattle.std.specs.Prelude.{◌≡◌, ℕ, ◌+◌, ◌≤◌, max, Bool, true, false, ◌&&◌, ◌||◌, ◌⊎◌, List, [], ◌∷◌, ◌++◌, Option, None, fold, filter, if◌then◌else◌, nat_eq, nat_lt}
use Rattle.std.specs.List.{list_any, starts_with}
use Rattle.std.specs.FinMap.{FinMap, empty, insert, remove, get, entries}
use Rattle.lsm_below.specs.Keys.{Bytes, bytes_cmp, is_same}
use Rattle.lsm_below.specs.Ranges.{Range, in_range}
use Rattle.lsm_below.specs.Entries.{Entry, value_of, is_value, is_weak, stack, values, above}
pub use Rattle.lsm_below.specs.Lookups.{is_from, is_to}
use Rattle.lsm_below.specs.declared.value_type.ValueType.{ValueType}
use Rattle.lsm_below.specs.declared.value_type.ValueType.TheVariants.{Value, Tombstone, WeakTombstone}
use Rattle.lsm_model.specs.declared.question.Question.{Question}
use Rattle.lsm_model.specs.declared.question.Question.TheVariants.{Get, Between, Prefix}
use Rattle.lsm_model.specs.declared.question.Answer.{Answer}
use Rattle.lsm_model.specs.declared.question.Answer.TheVariants.{Found, Pairs}
use Rattle.lsm_model.specs.declared.journal.JournalEntry.{JournalEntry}
use Rattle.lsm_model.specs.declared.journal.JournalEntry.TheVariants.{Write, Clear, Install, Dropped, Mark, Read}

-- ---- events and maps

-- what a journal lists: calls, and what else matters to reads
abbrev pub Event : Type 0
Event = JournalEntry

-- keys with their values, by rising key
abbrev pub Map : Type 0
Map = FinMap bytes_cmp Bytes

-- a map after a key was set to a value, or was removed
abbrev pub changed_by : Map → Bytes → ValueType → Bytes → Map
changed_by m k Value v = insert m k v
changed_by m k Tombstone v = remove m k
changed_by m k WeakTombstone v = remove m k

-- a map after the write of an entry
abbrev pub changed : Map → Entry → Map
changed m e = changed_by m e.key.user_key e.key.value_type e.value

-- ---- the replay

-- a map after an event, of which only calls numbered below the snapshot count
abbrev pub map_after : ℕ → Map → Event → Map
map_after s m (Write e) = if nat_lt e.key.seqno s then changed m e else m
map_after s m (Clear n) = if nat_lt n s then empty else m
map_after s m (Install n) = m
map_after s m (Dropped ranges n) = m
map_after s m (Mark w) = m
map_after s m (Read at question answer) = m

-- a map after all events of a journal, of which only calls numbered below the snapshot count
abbrev pub replay : Map → List Event → ℕ → Map
replay start journal s = fold (map_after s) start journal

-- the value of one key after an event, of which only calls numbered below the snapshot count
abbrev pub value_after : Bytes → ℕ → Option Bytes → Event → Option Bytes
value_after k s v (Write e) = if is_same k e.key.user_key && nat_lt e.key.seqno s then value_of e else v
value_after k s v (Clear n) = if nat_lt n s then None else v
value_after k s v (Install n) = v
value_after k s v (Dropped ranges n) = v
value_after k s v (Mark w) = v
value_after k s v (Read at question answer) = v

-- the value of one key after all events of a journal, of which only calls numbered below the snapshot count
abbrev pub replay_at : Bytes → ℕ → Option Bytes → List Event → Option Bytes
replay_at k s start journal = fold (value_after k s) start journal

-- ---- dropped ranges

-- does the key lie in one of the ranges?
abbrev pub in_any : Bytes → List Range → Bool
in_any k ranges = list_any (in_range k) ranges

-- is the key, after an event, in no dropped range since its last call, of what is numbered below the snapshot?
abbrev pub outside_after : Bytes → ℕ → Bool → Event → Bool
outside_after k s b (Write e) = is_same k e.key.user_key && nat_lt e.key.seqno s || b
outside_after k s b (Clear n) = nat_lt n s || b
outside_after k s b (Install n) = b
outside_after k s b (Dropped ranges n) = if nat_lt n s && in_any k ranges then false else b
outside_after k s b (Mark w) = b
outside_after k s b (Read at question answer) = b

-- is the key, after all events, in no dropped range since its last call, of what is numbered below the snapshot?
abbrev pub is_outside : Bytes → ℕ → List Event → Bool
is_outside k s journal = fold (outside_after k s) true journal

-- ---- snapshots

-- is, after an event, no watermark above the snapshot?
abbrev pub kept_after : ℕ → Bool → Event → Bool
kept_after s b (Mark w) = if nat_lt s w then false else b
kept_after s b (Write e) = b
kept_after s b (Clear n) = b
kept_after s b (Install n) = b
kept_after s b (Dropped ranges n) = b
kept_after s b (Read at question answer) = b

-- is no watermark of the journal above the snapshot?
abbrev pub is_kept : ℕ → List Event → Bool
is_kept s journal = fold (kept_after s) true journal

-- a snapshot that a tree has to answer: 0, or one that no watermark is above
abbrev pub IsKept : ℕ → List Event → Type 0
IsKept s journal = (s ≡ 0) ⊎ (is_kept s journal ≡ true)

-- ---- sequence numbers

-- the least sequence number above those of a key, after an event
abbrev pub next_after : Bytes → ℕ → Event → ℕ
next_after k n (Write e) = if is_same k e.key.user_key then max n (e.key.seqno + 1) else n
next_after k n (Clear m) = n
next_after k n (Install m) = n
next_after k n (Dropped ranges m) = n
next_after k n (Mark w) = n
next_after k n (Read at question answer) = n

-- the least sequence number above all that a key had so far, in writes and in what was opened
abbrev pub next_of : Bytes → List Entry → List Event → ℕ
next_of k opened journal = fold (next_after k) (above (stack k opened)) journal

-- the least sequence number above all, after an event
abbrev pub next_number_after : ℕ → Event → ℕ
next_number_after n (Write e) = max n (e.key.seqno + 1)
next_number_after n (Clear m) = max n (m + 1)
next_number_after n (Install m) = max n (m + 1)
next_number_after n (Dropped ranges m) = n
next_number_after n (Mark w) = n
next_number_after n (Read at question answer) = n

-- the least sequence number above all so far, in calls, in installs and in what was opened
abbrev pub next_number : List Entry → List Event → ℕ
next_number opened journal = fold next_number_after (above opened) journal

-- the greatest sequence number of an install or a clear, after an event
abbrev pub floor_after : ℕ → Event → ℕ
floor_after n (Write e) = n
floor_after n (Clear m) = max n m
floor_after n (Install m) = max n m
floor_after n (Dropped ranges m) = n
floor_after n (Mark w) = n
floor_after n (Read at question answer) = n

-- the greatest sequence number of an install or a clear so far, or 0
abbrev pub floor : List Event → ℕ
floor journal = fold floor_after 0 journal

-- how often a key was set, after an event
abbrev pub sets_after : Bytes → ℕ → Event → ℕ
sets_after k n (Write e) = if is_same k e.key.user_key && is_value e then n + 1 else n
sets_after k n (Clear m) = n
sets_after k n (Install m) = n
sets_after k n (Dropped ranges m) = n
sets_after k n (Mark w) = n
sets_after k n (Read at question answer) = n

-- how often a key was set so far, the values that were opened included
abbrev pub sets_of : Bytes → List Entry → List Event → ℕ
sets_of k opened journal = fold (sets_after k) (values (stack k opened)) journal

-- ---- order

-- a write that may come next: below no install and no clear, above all of its key, and weak only over one set at most
pub record MayWrite (opened : List Entry) (journal : List Event) (e : Entry) : Type 0 where
  pub after_installs : floor journal ≤ e.key.seqno
  pub after_own : next_of e.key.user_key opened journal ≤ e.key.seqno
  pub single : is_weak e ≡ true → sets_of e.key.user_key opened journal ≤ 1

-- an event that may come next: a write in its order, a clear or an install above all sequence numbers, anything else at any time
abbrev pub MayCome : List Entry → List Event → Event → Type 0
MayCome opened journal (Write e) = MayWrite opened journal e
MayCome opened journal (Clear n) = next_number opened journal ≤ n
MayCome opened journal (Install n) = next_number opened journal ≤ n
MayCome opened journal (Dropped ranges n) = Unit {0}
MayCome opened journal (Mark w) = Unit {0}
MayCome opened journal (Read at question answer) = Unit {0}

-- each of the events may come where it stands, after those before
abbrev pub InOrderFrom : List Entry → List Event → List Event → Type 0
InOrderFrom opened before [] = Unit {0}
InOrderFrom opened before (x ∷ events) = MayCome opened before x × InOrderFrom opened (before ++ x ∷ []) events

-- each event of a journal may come where it stands
abbrev pub InOrder : List Entry → List Event → Type 0
InOrder opened journal = InOrderFrom opened [] journal

-- ---- answers

-- what a map answers to a question
abbrev pub answer : Map → Question → Answer
answer m (Get k) = Found (get m k)
answer m (Between low high) = Pairs (filter (λ e. is_from low e.0 && is_to high e.0) (entries m))
answer m (Prefix p) = Pairs (filter (λ e. starts_with nat_eq e.0 p) (entries m))

-- an answer, without the keys that fail a test
abbrev pub cut : (Bytes → Bool) → Question → Answer → Answer
cut out (Get k) a = if out k then a else Found None
cut out (Between low high) (Pairs es) = Pairs (filter (λ e. out e.0) es)
cut out (Prefix p) (Pairs es) = Pairs (filter (λ e. out e.0) es)
cut out (Between low high) (Found v) = Found v
cut out (Prefix p) (Found v) = Found v

-- a read answered what the replay before it does, outside dropped ranges
abbrev pub ReadAgrees : Map → List Event → Event → Type 0
ReadAgrees start before (Read s question told) =
    let out = λ (k : Bytes). is_outside k s before in
    cut out question told ≡ cut out question (answer (replay start before s) question)
ReadAgrees start before (Write e) = Unit {0}
ReadAgrees start before (Clear n) = Unit {0}
ReadAgrees start before (Install n) = Unit {0}
ReadAgrees start before (Dropped ranges n) = Unit {0}
ReadAgrees start before (Mark w) = Unit {0}

-- each read among the events answered what the replay before it does, outside dropped ranges
abbrev pub AgreesFrom : Map → List Event → List Event → Type 0
AgreesFrom start before [] = Unit {0}
AgreesFrom start before (x ∷ events) = ReadAgrees start before x × AgreesFrom start (before ++ x ∷ []) events

-- each read of a journal answered what the replay before it does, outside dropped ranges
abbrev pub Agrees : Map → List Event → Type 0
Agrees start journal = AgreesFrom start [] journal
