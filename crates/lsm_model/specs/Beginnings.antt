-- What a crash may leave: tables that show a beginning of the calls, and how far it reaches at least.
use Rattle.std.specs.Prelude.{◌≡◌, ℕ, ◌+◌, ◌≤◌, max, Bool, true, false, ◌||◌, ◌⊎◌, List, [], ◌∷◌, ◌++◌, map, fold, take, drop, length, if◌then◌else◌, ◌==◌}
use Rattle.std.specs.FinMap.{empty, get}
use Rattle.lsm_below.specs.Keys.{Bytes, is_same}
use Rattle.lsm_below.specs.Entries.{Entry, above, stack, IsOrdered, IsSingle}
use Rattle.lsm_model.specs.Journal.{in_any, Event, Map, changed, InOrder}
use Rattle.lsm_model.specs.Views.{view, Placed, held, IsLaidOut, ranges_of, IsIn, HasDistinctIds}
use Rattle.lsm_model.specs.Steps.{State, among, Action, Rotated, Flushed, Merged, Moved, DroppedTables, Cleared, LostDrop, Step, IsOpened}
use Rattle.lsm_model.specs.declared.journal.JournalEntry.TheVariants.{Write, Clear, Install, Dropped, Mark, Read}

-- ---- beginnings

-- a map after an event; every call counts, whatever its sequence number
abbrev pub call_after : Map → Event → Map
call_after m (Write e) = changed m e
call_after m (Clear n) = empty
call_after m (Install n) = m
call_after m (Dropped ranges n) = m
call_after m (Mark w) = m
call_after m (Read s question told) = m

-- the starting map after the calls of these events
abbrev pub beginning : Map → List Event → Map
beginning start front = fold call_after start front

-- is the key, after an event, in no dropped range since its last call?
abbrev pub spared_after : Bytes → Bool → Event → Bool
spared_after k b (Write e) = is_same k e.key.user_key || b
spared_after k b (Clear n) = true
spared_after k b (Install n) = b
spared_after k b (Dropped ranges n) = if in_any k ranges then false else b
spared_after k b (Mark w) = b
spared_after k b (Read s question told) = b

-- is the key, after an event, in no dropped range, where calls count no more?
abbrev pub spoiled_after : Bytes → Bool → Event → Bool
spoiled_after k b (Write e) = b
spoiled_after k b (Clear n) = b
spoiled_after k b (Install n) = b
spoiled_after k b (Dropped ranges n) = if in_any k ranges then false else b
spoiled_after k b (Mark w) = b
spoiled_after k b (Read s question told) = b

-- is the key in no range of a drop, at the front or after it, that comes after its last call at the front?
abbrev pub is_spared : Bytes → List Event → List Event → Bool
is_spared k front back = fold (spoiled_after k) (fold (spared_after k) true front) back

-- ---- what is acknowledged

-- what stands beside the journal: which memtables were sealed and flushed, and which clears came, each with its place
pub data Note : Type 0 where
  -- a memtable was sealed: its id, and the place that the journal had reached
  SealedAt : ℕ → ℕ → Note
  -- a flush of these memtables was installed
  FlushedIds : List ℕ → Note
  -- a clear was answered: the place after it
  ClearedTo : ℕ → Note
  -- a clear of unknown outcome: its sequence number, and its place
  ClearLost : ℕ → ℕ → Note

-- the place that the journal had reached when a memtable was sealed
abbrev pub sealed_at : List Note → ℕ → ℕ
sealed_at [] i = 0
sealed_at (SealedAt m p ∷ notes) i = if i == m then p else sealed_at notes i
sealed_at (FlushedIds ids ∷ notes) i = sealed_at notes i
sealed_at (ClearedTo p ∷ notes) i = sealed_at notes i
sealed_at (ClearLost n p ∷ notes) i = sealed_at notes i

-- the greatest place at which one of the memtables was sealed
abbrev pub greatest : List Note → List ℕ → ℕ
greatest notes [] = 0
greatest notes (m ∷ ids) = max (sealed_at notes m) (greatest notes ids)

-- the greatest place that an installed flush or an answered clear covers; the notes stand newest first
abbrev pub covered : List Note → ℕ
covered [] = 0
covered (SealedAt m p ∷ notes) = covered notes
covered (FlushedIds ids ∷ notes) = max (greatest notes ids) (covered notes)
covered (ClearedTo p ∷ notes) = max p (covered notes)
covered (ClearLost n p ∷ notes) = covered notes

-- the journal before a place, to which a clear of unknown outcome that stands there may be added
abbrev pub IsFront : List Event → List Note → ℕ → List Event → Type 0
IsFront journal notes place front = (front ≡ take place journal) ⊎ ((n : ℕ) × IsIn (ClearLost n place) notes × (front ≡ take place journal ++ Clear n ∷ []))

-- ---- what tables stand for

-- what tables alone show, above all their sequence numbers
abbrev pub shown_by : List Placed → Map
shown_by tables = view (above (held tables)) (map (λ p. p.table.entries) tables)

-- tables as opening takes them
pub record Stands (tables : List Placed) : Type 0 where
  pub distinct : HasDistinctIds tables
  pub laid : IsLaidOut tables
  pub ordered : IsOrdered (map (λ p. p.table.entries) tables)
  pub single : (k : Bytes) → IsSingle (stack k (held tables))

-- a map that is, outside dropped ranges, a beginning of the calls which reaches this far at least
pub record IsBeginning (start : Map) (journal : List Event) (notes : List Note) (least : ℕ) (m : Map) : Type 0 where
  pub place : ℕ
  pub enough : least ≤ place
  pub within : place ≤ length journal
  pub front : List Event
  pub is_front : IsFront journal notes place front
  pub shows : (k : Bytes) → is_spared k front (drop place journal) ≡ true → get m k ≡ get (beginning start front) k

-- tables that opening takes, and that show a beginning of the calls which reaches this far at least
pub record Recovers (start : Map) (journal : List Event) (notes : List Note) (least : ℕ) (tables : List Placed) : Type 0 where
  pub stands : Stands tables
  pub begins : IsBeginning start journal notes least (shown_by tables)

-- ---- deeds

-- a tree with its notes, and with the tables that a crash may show in place of the latest ones
pub record Saved : Type 0 where
  pub state : State
  pub notes : List Note
  -- tables that a commit of unknown outcome may have put in place of the latest ones
  pub others : List (List Placed)

-- the tables that opening may find
abbrev pub versions : Saved → List (List Placed)
versions t = t.state.latest.tables ∷ t.others

-- what a tree does, where a crash may come at any time
pub data Deed : Type 0 where
  Done : Action → Deed
  -- a commit of unknown outcome, and what it would have made
  Lost : Action → State → Deed

-- does the action put other tables in place?
abbrev pub is_commit : Action → Bool
is_commit (Flushed w job made) = true
is_commit (Merged w d ids evict made) = true
is_commit (Moved d ids moved) = true
is_commit (DroppedTables ids) = true
is_commit (Cleared n a) = true
is_commit other = false

-- what an action notes
abbrev pub noted_by : State → Action → List Note
noted_by old (Rotated a) = SealedAt old.latest.active (length old.journal) ∷ []
noted_by old (Flushed w job made) = FlushedIds job ∷ []
noted_by old (Cleared n a) = ClearedTo (length old.journal + 1) ∷ []
noted_by old other = []

-- what a commit of unknown outcome notes
abbrev pub noted_lost : State → Action → List Note
noted_lost old (Cleared n a) = ClearLost n (length old.journal) ∷ []
noted_lost old other = []

-- what a commit of unknown outcome puts into the journal
abbrev pub told_lost : State → Action → State → List Event
told_lost old (DroppedTables ids) would = Dropped (ranges_of (among ids) old.latest.tables) would.latest.number ∷ []
told_lost old other would = []

-- is the action one of unknown outcome?
abbrev pub is_lost : Action → Bool
is_lost (LostDrop ranges n) = true
is_lost other = false

-- an action that is answered; no commit follows one of unknown outcome
pub record IsDone (opened : List Entry) (old : Saved) (action : Action) (new : Saved) : Type 0 where
  pub answered : is_lost action ≡ false
  pub certain : is_commit action ≡ true → old.others ≡ []
  pub step : Step opened old.state action new.state
  pub distinct : HasDistinctIds new.state.latest.tables
  pub notes : new.notes ≡ noted_by old.state action ++ old.notes
  pub others : new.others ≡ old.others

-- a commit of unknown outcome: the reads stay, and opening may find either version
pub record IsLost (opened : List Entry) (old : Saved) (action : Action) (would : State) (new : Saved) : Type 0 where
  pub commits : is_commit action ≡ true
  pub certain : old.others ≡ []
  pub step : Step opened old.state action would
  pub distinct : HasDistinctIds would.latest.tables
  pub state : new.state ≡ record { journal = old.state.journal ++ told_lost old.state action would; mems = old.state.mems; latest = old.state.latest; older = old.state.older }
  pub notes : new.notes ≡ noted_lost old.state action ++ old.notes
  pub others : new.others ≡ would.latest.tables ∷ []

-- a deed leads from one state to another
abbrev pub Does : List Entry → Saved → Deed → Saved → Type 0
Does opened old (Done action) new = IsDone opened old action new
Does opened old (Lost action would) new = IsLost opened old action would new

-- deeds, one after the other, lead from one state to another
abbrev pub Deeds : List Entry → Saved → List Deed → Saved → Type 0
Deeds opened old [] new = new ≡ old
Deeds opened old (deed ∷ deeds) new = (mid : Saved) × Does opened old deed mid × Deeds opened mid deeds new

-- tables that opening may find at some moment of these deeds
abbrev pub IsFound : List Placed → (opened : List Entry) (old : Saved) (deeds : List Deed) (new : Saved) → Deeds opened old deeds new → Type 0
IsFound left opened old [] new done = IsIn left (versions old)
IsFound left opened old (deed ∷ deeds) new done = IsIn left (versions old) ⊎ IsFound left opened done.0 deeds new done.2

-- a tree as opening leaves it, with no notes
pub record IsStart (opened : List Entry) (start : Map) (t : Saved) : Type 0 where
  pub opens : IsOpened opened start t.state
  pub distinct : HasDistinctIds t.state.latest.tables
  pub notes : t.notes ≡ []
  pub others : t.others ≡ []

-- ---- what holds of deeds

-- tables found at any moment of a call show a beginning that holds all that was acknowledged before the call
abbrev pub EveryCrashRecovers : Type 0
EveryCrashRecovers = (opened : List Entry) (start : Map) (first old new : Saved) (earlier call : List Deed) → IsStart opened start first → Deeds opened first earlier old → (done : Deeds opened old call new) → InOrder opened new.state.journal
    → (left : List Placed) → IsFound left opened old call new done → Recovers start new.state.journal new.notes (covered old.notes) left

-- deeds after deeds are deeds, in which all that is found in either is found
abbrev pub DeedsJoin : Type 0
DeedsJoin = (opened : List Entry) (old mid new : Saved) (xs ys : List Deed) (d : Deeds opened old xs mid) (e : Deeds opened mid ys new)
    → (both : Deeds opened old (xs ++ ys) new) × ((left : List Placed) → IsFound left opened old xs mid d ⊎ IsFound left opened mid ys new e → IsFound left opened old (xs ++ ys) new both)

-- deeds can be cut anywhere
abbrev pub DeedsSplit : Type 0
DeedsSplit = (opened : List Entry) (old new : Saved) (xs ys : List Deed) → Deeds opened old (xs ++ ys) new → (mid : Saved) × Deeds opened old xs mid × Deeds opened mid ys new

-- ---- opening again

-- a tree that was opened on these tables, with an empty memtable
pub record IsFresh (first : List Placed) (t : Saved) : Type 0 where
  pub journal : t.state.journal ≡ []
  pub number : t.state.latest.number ≡ 0
  pub active : t.state.mems t.state.latest.active ≡ []
  pub sealed : t.state.latest.sealed ≡ []
  pub tables : t.state.latest.tables ≡ first
  pub older : t.state.older ≡ []
  pub notes : t.notes ≡ []
  pub others : t.others ≡ []

-- a tree that is opened on tables which stand is a start, and what they show is the starting map
abbrev pub OpeningStarts : Type 0
OpeningStarts = (tables : List Placed) (t : Saved) → Stands tables → IsFresh tables t → IsStart (held tables) (shown_by tables) t

-- at every snapshot above their sequence numbers tables show the same
abbrev pub ShownAbove : Type 0
ShownAbove = (tables : List Placed) (s : ℕ) → above (held tables) ≤ s → view s (map (λ p. p.table.entries) tables) ≡ shown_by tables
