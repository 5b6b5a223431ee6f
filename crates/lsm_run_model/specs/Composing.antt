-- From what each call of a run does, as deeds and images, to what holds of the whole run at each moment.
use Rattle.std.specs.Prelude.{◌≡◌, ◌⊎◌, ℕ, ◌<◌, ◌≤◌, List, [], ◌∷◌, map, take}
use Rattle.std.specs.List.{AllByRecursion}
use Rattle.lsm_below.specs.Entries.{Entry, above}
use Rattle.lsm_below.specs.Members.{IsIn}
use Rattle.lsm_store.specs.World.{Image, World, LeavesOnly}
use Rattle.lsm_model.specs.Journal.{Event, Map, InOrder, next_number}
use Rattle.lsm_model.specs.Counted.{OfWrite}
use Rattle.lsm_model.specs.Views.{Placed, held, HasDistinctIds}
use Rattle.lsm_model.specs.Sound.{Holds}
use Rattle.lsm_model.specs.Beginnings.{Saved, Deed, Deeds, IsStart, Stands, shown_by, versions}
use Rattle.lsm_run_model.specs.Outcomes.{Told, Past, after, after_all, without_low_reads, sealed_in}
use Rattle.lsm_run_model.specs.Moments.{LeavesNow, EachMoment, last_of}

-- ---- trees

-- the journal of a tree, and its notes
abbrev pub past_of : Saved → Past
past_of t = record { journal = t.state.journal; notes = t.notes }

-- reads of the tree are right, and no two of its tables have one id
pub record IsRight (opened : List Entry) (start : Map) (t : Saved) : Type 0 where
  pub holds : Holds opened start t.state
  pub distinct : HasDistinctIds t.state.latest.tables

-- a tree as its calls so far left it: it was opened with these entries, which show the map, and all that was done since are deeds
pub record CameAbout (opened : List Entry) (start : Map) (t : Saved) : Type 0 where
  pub first : Saved
  pub starts : IsStart opened start first
  pub deeds : List Deed
  pub done : Deeds opened first deeds t
  pub order : InOrder opened t.state.journal

-- ---- what each call does

-- a tree beside its store
pub record Point (F : Type 0) : Type 0 where
  pub store : F
  pub tree : Saved

-- opening finds tables in the image that are among these
abbrev pub FindsAmong : (Image → List Placed → Type 0) → (List Placed → Type 0) → Image → Type 0
FindsAmong Finds Among image = (tables : List Placed) × Finds image tables × Among tables

-- the tables of either tree
abbrev pub IsOfEither : Saved → Saved → List Placed → Type 0
IsOfEither old new tables = IsIn tables (versions old) ⊎ IsIn tables (versions new)

-- a tree that came about, beside a store of which a crash now leaves tables that opening may find of it
pub record StandsAt {F : Type 0} (Finds : Image → List Placed → Type 0) (world : F → World) (opened : List Entry) (start : Map) (p : Point F) : Type 0 where
  pub came : CameAbout opened start p.tree
  pub now : LeavesNow (world p.store) (FindsAmong Finds (λ tables. IsIn tables (versions p.tree)))

-- the call of an outcome: its deeds add to the journal and to the notes what it tells; inside it a crash leaves the tables of the
-- tree before or after it, and after it those of the latter
pub record DoesCall {F R : Type 0} (Finds : Image → List Placed → Type 0) (world : F → World) (opened : List Entry) (told : Told R) (old new : Point F) : Type 0 where
  pub deeds : List Deed
  pub done : Deeds opened old.tree deeds new.tree
  pub past : past_of new.tree ≡ after opened (past_of old.tree) told
  pub inside : LeavesOnly (world old.store) (world new.store) (FindsAmong Finds (IsOfEither old.tree new.tree))
  pub now : LeavesNow (world new.store) (FindsAmong Finds (λ tables. IsIn tables (versions new.tree)))

-- each call does so, where reads are right before it and the journal is in order after it
abbrev pub EachDoes : {F R : Type 0} → (Image → List Placed → Type 0) → (F → World) → List Entry → Map → List (Told R) → Point F → List (Point F) → Type 0
EachDoes Finds world opened start [] old [] = Unit {0}
EachDoes Finds world opened start (told ∷ more) old (new ∷ points) =
    (IsRight opened start old.tree → InOrder opened (after opened (past_of old.tree) told).journal → DoesCall Finds world opened told old new)
    × EachDoes Finds world opened start more new points
EachDoes Finds world opened start [] old (new ∷ points) = ⊥
EachDoes Finds world opened start (told ∷ more) old [] = ⊥

-- ---- what follows

-- tables that are found, that stand and that are numbered below this show their map
abbrev pub TablesShow : (Image → List Placed → Type 0) → (Image → Map → Type 0) → ℕ → Type 0
TablesShow Finds Shows n = (image : Image) (tables : List Placed) → Finds image tables → Stands tables → above (held tables) ≤ n → Shows image (shown_by tables)

-- what was opened and all that is written is numbered below this
pub record AreNumbered (n : ℕ) (opened : List Entry) (journal : List Event) : Type 0 where
  pub before : above opened ≤ n
  pub written : AllByRecursion (OfWrite (λ e. e.key.seqno < n)) journal

-- what holds at each moment of these calls, after each of them, and in the end
pub record Composed {F R : Type 0} (Finds : Image → List Placed → Type 0) (Shows : Image → Map → Type 0) (world : F → World) (opened : List Entry) (start : Map) (told : List (Told R)) (first : Point F) (points : List (Point F)) : Type 0 where
  pub moments : EachMoment Shows world opened start (past_of first.tree) told first.store (map (λ p. p.store) points)
  pub right : AllByRecursion (λ p. IsRight opened start p.tree) (first ∷ points)
  pub stands : StandsAt Finds world opened start (last_of first points)
  pub past : past_of (last_of first points).tree ≡ after_all opened (past_of first.tree) told

-- Calls on a tree that came about, of which the first so many are in order, whatever comes later: so it is of these first ones, and the
-- tree after them came about too, so that calls may go on.
abbrev pub RunsCompose : {F : Type 0} → Type 0 → (Image → List Placed → Type 0) → (ℕ → Image → Map → Type 0) → (F → World) → Type 0
RunsCompose {F} R Finds Shows world = (opened : List Entry) (start : Map) (n : ℕ) (told : List (Told R)) (first : Point F) (points : List (Point F))
    → TablesShow Finds (Shows n) n → StandsAt Finds world opened start first → EachDoes Finds world opened start told first points
    → (many : ℕ) → AreNumbered n opened (after_all opened (past_of first.tree) (take many told)).journal → InOrder opened (after_all opened (past_of first.tree) (take many told)).journal
    → Composed Finds (Shows n) world opened start (take many told) first (take many points)

-- ---- reads alone, over any store

-- a tree that came about has no low reads in its journal
abbrev pub NoLowReads : Type 0
NoLowReads = (opened : List Entry) (start : Map) (t : Saved) → CameAbout opened start t → without_low_reads opened t.state.journal ≡ t.state.journal

-- and has just those memtables sealed that its notes tell
abbrev pub NotesTellSealed : Type 0
NotesTellSealed = (opened : List Entry) (start : Map) (t : Saved) → CameAbout opened start t → sealed_in t.notes ≡ t.state.latest.sealed

-- what was opened and written is numbered below the next number, and below any that is as great
abbrev pub NumbersAreBounded : Type 0
NumbersAreBounded = (opened : List Entry) (journal : List Event) (n : ℕ) → next_number opened journal ≤ n → AreNumbered n opened journal
