-- The steps of a tree, and what holds of its reads after any of them.
use Rattle.std.specs.Prelude.{◌≡◌, ℕ, ◌<◌, ◌≤◌, Bool, true, false, List, [], ◌∷◌, ◌++◌, Some, flat_map, is_some, ◌==◌}
use Rattle.std.specs.List.{AllByRecursion, list_any}
use Rattle.std.specs.FinMap.{get}
use Rattle.lsm_below.specs.Keys.{Bytes}
use Rattle.lsm_below.specs.Ranges.{Range, in_range}
use Rattle.lsm_below.specs.Entries.{Entry, above, stack, top, IsOrdered, IsSingle, keep}
use Rattle.lsm_model.specs.Journal.{Event, Agrees, Map, InOrder, replay, is_outside, is_kept, IsKept}
use Rattle.lsm_model.specs.Views.{view, found_at, view_at, walk, Memtables, Placed, held, SuperVersion, sources, maintained, written, answered, emptied, IsLaidOut, IsAllowed, chosen_of, upper_of, lower_of, left_of, ranges_of, IsRearranged}
use Rattle.lsm_model.specs.declared.journal.JournalEntry.TheVariants.{Write, Clear, Install, Dropped, Mark, Read}
use Rattle.lsm_model.specs.declared.question.Question.{Question}

-- ---- states

-- a tree: its journal, its memtables, and its super versions, the latest and the older ones from the newest
pub record State : Type 0 where
  pub journal : List Event
  pub mems : Memtables
  pub latest : SuperVersion
  pub older : List SuperVersion

-- the super versions of a tree, from the newest
abbrev pub history : State → List SuperVersion
history t = t.latest ∷ t.older

-- is the id one of these?
abbrev pub among : List ℕ → ℕ → Bool
among ids i = list_any (λ j. i == j) ids

-- tables hold only keys of their ranges
abbrev pub AllCover : List Placed → Type 0
AllCover tables = AllByRecursion (λ p. AllByRecursion (λ e. in_range e.key.user_key p.table.range ≡ true) p.table.entries) tables

-- ---- actions

-- what a tree does
pub data Action : Type 0 where
  -- the entry; the id of the new memtable
  Wrote : Entry → Action
  Rotated : ℕ → Action
  -- the watermark, the memtables of the job and the tables made of them
  Flushed : ℕ → List ℕ → List Placed → Action
  -- the watermark, the level, the tables chosen, whether tombstones are evicted, and the tables made
  Merged : ℕ → ℕ → List ℕ → Bool → List Placed → Action
  -- the level, the tables chosen, and the same in the order of their run
  Moved : ℕ → List ℕ → List Placed → Action
  DroppedTables : List ℕ → Action
  -- its sequence number, and the id of the new memtable
  Cleared : ℕ → ℕ → Action
  Marked : ℕ → Action
  -- a drop whose outcome is unknown: its ranges and its sequence number
  LostDrop : List Range → ℕ → Action
  Asked : ℕ → Question → Action
  Maintained : ℕ → Action

-- an entry took its place in the active memtable, in whatever order a memtable lists its keys
pub record IsWrite (e : Entry) (old new : State) : Type 0 where
  pub journal : new.journal ≡ old.journal ++ Write e ∷ []
  pub mems : (k : Bytes) (i : ℕ) → stack k (new.mems i) ≡ stack k (written old.mems old.latest.active e i)
  pub latest : new.latest ≡ old.latest
  pub older : new.older ≡ old.older

-- a new super version came in front of the others, and the journal tells these events
pub record IsCommit (events : List Event) (old new : State) : Type 0 where
  pub journal : new.journal ≡ old.journal ++ events
  pub mems : new.mems ≡ old.mems
  pub active : new.latest.active ≡ old.latest.active
  pub older : new.older ≡ old.latest ∷ old.older
  pub laid : IsLaidOut new.latest.tables

-- the oldest sealed memtables gave way to tables, in front of all others, that hold what a compaction keeps of them
pub record IsFlush (w : ℕ) (job : List ℕ) (made : List Placed) (old new : State) : Type 0 where
  pub commit : IsCommit (Install new.latest.number ∷ []) old new
  pub sealed : old.latest.sealed ≡ new.latest.sealed ++ job
  pub covers : AllCover made
  pub placed : IsRearranged (made ++ old.latest.tables) new.latest.tables
  -- where sequence numbers fall, as they do in every tree that reads right
  pub kept : IsOrdered (sources old.mems old.latest) → (k : Bytes) → stack k (held made) ≡ keep w false (stack k (flat_map old.mems job))

-- chosen tables gave way to a first run of level d, which holds what a compaction keeps of them
pub record IsMerge (w d : ℕ) (ids : List ℕ) (evict : Bool) (made : List Placed) (old new : State) : Type 0 where
  pub commit : IsCommit (Install new.latest.number ∷ []) old new
  pub sealed : new.latest.sealed ≡ old.latest.sealed
  pub allowed : IsAllowed d (among ids) evict old.latest.tables
  pub covers : AllCover made
  pub placed : IsRearranged (upper_of d (among ids) old.latest.tables ++ (made ++ lower_of d (among ids) old.latest.tables)) new.latest.tables
  -- where sequence numbers fall, as they do in every tree that reads right
  pub kept : IsOrdered (sources old.mems old.latest) → (k : Bytes) → stack k (held made) ≡ keep w evict (stack k (held (chosen_of (among ids) old.latest.tables)))

-- chosen tables became a first run of level d, with the same entries
pub record IsMove (d : ℕ) (ids : List ℕ) (moved : List Placed) (old new : State) : Type 0 where
  pub commit : IsCommit (Install new.latest.number ∷ []) old new
  pub sealed : new.latest.sealed ≡ old.latest.sealed
  pub allowed : IsAllowed d (among ids) false old.latest.tables
  pub covers : AllCover moved
  pub placed : IsRearranged (upper_of d (among ids) old.latest.tables ++ (moved ++ lower_of d (among ids) old.latest.tables)) new.latest.tables
  pub same : (k : Bytes) → stack k (held moved) ≡ stack k (held (chosen_of (among ids) old.latest.tables))

-- chosen tables were dropped, and the journal tells their ranges
pub record IsDrop (ids : List ℕ) (old new : State) : Type 0 where
  pub commit : IsCommit (Dropped (ranges_of (among ids) old.latest.tables) new.latest.number ∷ (Install new.latest.number ∷ [])) old new
  pub sealed : new.latest.sealed ≡ old.latest.sealed
  pub placed : IsRearranged (left_of (among ids) old.latest.tables) new.latest.tables

-- old super versions were forgotten, none that maintenance at w leaves, where no kept snapshot is below w
pub record IsMaintained (w : ℕ) (old new : State) : Type 0 where
  pub marked : (s : ℕ) → is_kept s old.journal ≡ true → w ≤ s
  pub journal : new.journal ≡ old.journal
  pub mems : AllByRecursion (λ sv. sources new.mems sv ≡ sources old.mems sv) (history new)
  pub still : List SuperVersion
  pub holds : history new ≡ maintained w (history old) ++ still
  pub removed : List SuperVersion
  pub was : history old ≡ history new ++ removed

-- an action leads from one state of a tree to another
abbrev pub Step : List Entry → State → Action → State → Type 0
Step opened old (Wrote e) new = IsWrite e old new
Step opened old (Rotated a) new = (old.latest.active < a) × (new ≡ record { journal = old.journal; mems = emptied old.mems a; latest = record { number = old.latest.number; active = a; sealed = old.latest.active ∷ old.latest.sealed; tables = old.latest.tables }; older = old.older })
Step opened old (Flushed w job made) new = IsFlush w job made old new
Step opened old (Merged w d ids evict made) new = IsMerge w d ids evict made old new
Step opened old (Moved d ids moved) new = IsMove d ids moved old new
Step opened old (DroppedTables ids) new = IsDrop ids old new
Step opened old (Cleared n a) new = (old.latest.active < a) × (new ≡ record { journal = old.journal ++ Clear n ∷ []; mems = emptied old.mems a; latest = record { number = n; active = a; sealed = []; tables = [] }; older = history old })
Step opened old (Marked w) new = new ≡ record { journal = old.journal ++ Mark w ∷ []; mems = old.mems; latest = old.latest; older = old.older }
Step opened old (LostDrop ranges n) new = new ≡ record { journal = old.journal ++ Dropped ranges n ∷ []; mems = old.mems; latest = old.latest; older = old.older }
Step opened old (Asked s question) new = (sv : SuperVersion) × (above opened ≤ s) × (found_at s old.latest old.older ≡ Some sv) × (new ≡ record { journal = old.journal ++ Read s question (answered s (sources old.mems sv) question) ∷ []; mems = old.mems; latest = old.latest; older = old.older })
Step opened old (Maintained w) new = IsMaintained w old new

-- actions, one after the other, lead from one state of a tree to another
abbrev pub Run : List Entry → State → List Action → State → Type 0
Run opened old [] new = new ≡ old
Run opened old (action ∷ actions) new = (mid : State) × Step opened old action mid × Run opened mid actions new

-- ---- reads

-- a tree as opening leaves it: nothing but tables, which are ordered, and start is what they show
pub record IsOpened (opened : List Entry) (start : Map) (t : State) : Type 0 where
  pub journal : t.journal ≡ []
  pub number : t.latest.number ≡ 0
  pub active : t.mems t.latest.active ≡ []
  pub sealed : t.latest.sealed ≡ []
  pub tables : held t.latest.tables ≡ opened
  pub laid : IsLaidOut t.latest.tables
  pub older : t.older ≡ []
  pub ordered : IsOrdered (opened ∷ [])
  pub single : (k : Bytes) → IsSingle (stack k opened)
  pub starts : (k : Bytes) → get start k ≡ view_at k (above opened) (opened ∷ [])

-- the reads of a tree answer what the replay of its journal does
pub record ReadsEqualReplay (opened : List Entry) (start : Map) (t : State) : Type 0 where
  -- every super version stays ordered
  pub ordered : AllByRecursion (λ sv. IsOrdered (sources t.mems sv)) (history t)
  -- each view equals the replay, outside dropped ranges
  pub views : (s : ℕ) (sv : SuperVersion) → above opened ≤ s → found_at s t.latest t.older ≡ Some sv → (k : Bytes) → is_outside k s t.journal ≡ true → get (view s (sources t.mems sv)) k ≡ get (replay start t.journal s) k
  -- kept snapshots are answered
  pub answered : (s : ℕ) → IsKept s t.journal → is_some (found_at s t.latest t.older) ≡ true
  -- each read so far answered what the replay did then
  pub agrees : Agrees start t.journal
  -- the view is that of the tops, and a walk from the newest source on finds the top
  pub tops : (k : Bytes) (s : ℕ) → AllByRecursion (λ sv. get (view s (sources t.mems sv)) k ≡ view_at k s (sources t.mems sv)) (history t)
  pub walks : (k : Bytes) (s : ℕ) → AllByRecursion (λ sv. walk k s (sources t.mems sv) ≡ top k s (flat_map (λ es. es) (sources t.mems sv))) (history t)

-- after any steps in order from an opened tree, its reads answer what the replay of its journal does
abbrev pub EveryRunReadsRight : Type 0
EveryRunReadsRight = (opened : List Entry) (start : Map) (old new : State) (actions : List Action) → IsOpened opened start old → Run opened old actions new → InOrder opened new.journal → ReadsEqualReplay opened start new

-- ---- answers that stay

-- an action is to leave the answers at this snapshot
abbrev pub Spares : Action → State → ℕ → Type 0
Spares (Wrote e) new s = s ≤ e.key.seqno
Spares (Rotated a) new s = Unit {0}
Spares (Flushed w job made) new s = Unit {0}
Spares (Merged w d ids evict made) new s = Unit {0}
Spares (Moved d ids moved) new s = Unit {0}
Spares (DroppedTables ids) new s = s ≤ new.latest.number
Spares (Cleared n a) new s = s ≤ n
Spares (Marked w) new s = Unit {0}
Spares (LostDrop ranges n) new s = Unit {0}
Spares (Asked at question) new s = Unit {0}
Spares (Maintained w) new s = Unit {0}

-- what a snapshot sees stays, where it finds a super version before and after
abbrev pub StaysAt : ℕ → State → State → Type 0
StaysAt s old new = (sv sv' : SuperVersion) → found_at s old.latest old.older ≡ Some sv → found_at s new.latest new.older ≡ Some sv' → view s (sources old.mems sv) ≡ view s (sources new.mems sv')

-- by what the journal tells: a write, a clear or a drop leaves what snapshots see that aren't above its sequence number, all else leaves all
abbrev pub IsSparedBy : ℕ → Event → Type 0
IsSparedBy s (Write e) = s ≤ e.key.seqno
IsSparedBy s (Clear n) = s ≤ n
IsSparedBy s (Install n) = Unit {0}
IsSparedBy s (Dropped ranges n) = s ≤ n
IsSparedBy s (Mark w) = Unit {0}
IsSparedBy s (Read at question answer) = Unit {0}
