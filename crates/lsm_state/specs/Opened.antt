-- What opening a tree answers.
use Rattle.std.specs.Prelude.{◌≡◌, ◌⊎◌, ◌^◌, ℕ, List, [], ◌∷◌, Result, Ok, Err, IfOk, IfErr}
use Rattle.std.specs.FinMap.{get}
use Rattle.lsm_below.specs.Keys.{Bytes}
use Rattle.lsm_below.specs.Entries.{Entry, stack, above, IsOrdered, IsSingle}
use Rattle.lsm_below.specs.declared.error.Error.{Error}
use Rattle.lsm_model.specs.Journal.{Map}
use Rattle.lsm_model.specs.Views.{held, sources, view, view_at}
use Rattle.lsm_model.specs.Steps.{IsOpened}
use Rattle.lsm_model.specs.Beginnings.{Stands, shown_by}
use Rattle.lsm_store.specs.World.{Image, World, IsImage, LeavesOnly}
use Rattle.lsm_versions.specs.Levels.{Levels as SeenLevels, placed_of}
use Rattle.lsm_manifest.specs.Told.{Told, TellsOpen}
use Rattle.lsm_manifest.specs.Opening.{Opens, OpensAs, LeavesStanding}
use Rattle.lsm_manifest.specs.Recovery.{Levels}
use Rattle.lsm_manifest.specs.Standing.{HasSmallNumbers, StandsFor}
use Rattle.lsm_manifest.specs.Finding.{StandsForMap, RefusesFound}
use Rattle.lsm_manifest.specs.Ready.{IsReady}
use Rattle.lsm_commit.specs.Stored.{IsStored}
use Rattle.lsm_commit.specs.Foreign.{Passes}
use Rattle.lsm_manifest.specs.declared.opening.Opened.{Opened}
use Rattle.lsm_manifest.specs.declared.found.Found.{Found as FoundFiles}
use Rattle.lsm_state.specs.declared.opening.found.Found.{Found}
use Rattle.lsm_parts.specs.Held.{entries_of}
use Rattle.lsm_state.specs.Core.{Core, Seen, state_of, latest_of, versions_left, written_of}

-- what is told of the files
abbrev pub files_told : {S : Type 0} → Result (Seen S) (Error × S) → Result Opened Error
files_told (Ok t) = Ok (record { version = t.core.history.latest.version; next_table_id = t.core.next_table })
files_told (Err e) = Err e.0

-- the store: in the tree, or beside the error
abbrev pub store_left : {S : Type 0} → Result (Seen S) (Error × S) → S
store_left (Ok t) = t.store
store_left (Err e) = e.1

-- what is told of the files before anything is changed
abbrev pub files_found : {S : Type 0} → Result (Found S) (Error × S) → Result FoundFiles Error
files_found (Ok f) = Ok f.files
files_found (Err e) = Err e.0

-- the store: with what was found, or beside the error
abbrev pub store_held : {S : Type 0} → Result (Found S) (Error × S) → S
store_held (Ok f) = f.store
store_held (Err e) = e.1

-- where the tables are ordered, and no weak tombstone stands over two values of its key, the replay starts from what they show
abbrev pub StartsFrom : Core → Type 0
StartsFrom c = (opened : List Entry) (start : Map) → opened ≡ held (latest_of c).tables → IsOrdered (opened ∷ []) → ((k : Bytes) → IsSingle (stack k opened))
    → ((k : Bytes) → get start k ≡ view_at k (above opened) (opened ∷ [])) → IsOpened opened start (state_of [] c)

-- the tree shows this map, and the replay starts from it; its tables stand as the theory of crashes has it, and show it alone
pub record StartsWith (m : Map) (c : Core) : Type 0 where
  pub shows : view (2 ^ 64) (sources (entries_of c.memtables) (latest_of c)) ≡ m
  pub starts : IsOpened (held (latest_of c).tables) m (state_of [] c)
  pub stands : Stands (latest_of c).tables
  pub alone : shown_by (latest_of c).tables ≡ m

-- the entries of the tables that were found
abbrev pub found_entries : Core → List Entry
found_entries c = held (placed_of c.history.latest.version.levels)

-- what could be left before, or an image that stands for the map
abbrev pub IsOldOrFor : World → Map → Image → Type 0
IsOldOrFor old m image = IsImage old.may image ⊎ StandsForMap image m

-- the tree of a store is opened, or nothing is
pub record OpensTree {S : Type 0} (world : S → World) (store : S) (r : Result (Seen S) (Error × S)) : Type 0 where
  -- what stands for a map is opened as it, and refused only for memory, a fault of the store, or a number of 2^63 or more
  pub shows : (m : Map) → StandsForMap (world store).gives m → IfOk r (λ t. StartsWith m t.core)
  pub refuses : (m : Map) → StandsForMap (world store).gives m → IfErr r (λ e. RefusesFound (world store).gives e.0)
  -- while a ready store is opened a crash leaves what it could before, or an image that stands for the map that was read; after
  -- an Ok such an image alone, and the tree's files are stored; whatever is answered, the store is ready to be opened again
  pub stands_for : IsReady (world store) → (m : Map) → StandsForMap (world store).gives m → LeavesOnly (world store) (world (store_left r)) (IsOldOrFor (world store) m)
  pub settles : IsReady (world store) → (m : Map) → StandsForMap (world store).gives m → IfOk r (λ t. (image : Image) → IsImage (world t.store).may image → StandsForMap image m)
  pub stored : IsReady (world store) → IfOk r (λ t. IsStored (world t.store) (versions_left t.core) (written_of t.core))
  pub again : IsReady (world store) → IsReady (world (store_left r))
  -- of any store: what is opened, or the first thing that is wrong with the files; and what a crash in it may leave
  pub opens : Told TellsOpen (Opens (world store) (world (store_left r))) (files_told r)
  pub leaves : LeavesStanding (world store) (world (store_left r))
  -- names that are none of the tree's are as they were
  pub passes : IfOk r (λ t. Passes (world store) (world t.store))

-- what stands was found
abbrev pub FoundStanding : World → FoundFiles → Type 0
FoundStanding w f = (id : ℕ) (ls : Levels) (ts : SeenLevels) → StandsFor w.gives id ls ts → HasSmallNumbers ts → OpensAs id ls ts (Ok f.opened)
