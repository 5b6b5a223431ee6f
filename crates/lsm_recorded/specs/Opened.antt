-- What opening a recorded tree answers.
use Rattle.std.specs.Prelude.{◌≡◌, ℕ, None, Result, Ok, Err, IfOk, IsSome, codes}
use Rattle.lsm_below.specs.declared.error.Error.{Error}
use Rattle.lsm_store.specs.World.{World, LeavesOnly}
use Rattle.lsm_versions.specs.Levels.{Levels as SeenLevels}
use Rattle.lsm_manifest.specs.declared.opening.Opened.{Opened}
use Rattle.lsm_manifest.specs.Clearing.{IsCleared, Removes}
use Rattle.lsm_manifest.specs.Finding.{Finds}
use Rattle.lsm_manifest.specs.Kinds.{is_orphan}
use Rattle.lsm_manifest.specs.Names.{current_name}
use Rattle.lsm_manifest.specs.Opening.{OpensNew, OpensAs, IsOlder, KeepsFiles, ReadsFrom}
use Rattle.lsm_manifest.specs.OpeningWith.{OpensWith, IsUnrecoverable}
use Rattle.lsm_manifest.specs.Persist.{IsOldOrNew}
use Rattle.lsm_manifest.specs.Pinned.{IsPinned}
use Rattle.lsm_manifest.specs.Ready.{IsReady, OpeningLeaves}
use Rattle.lsm_manifest.specs.Recovery.{Levels, IsNamed}
use Rattle.lsm_manifest.specs.Spelling.{ids_of}
use Rattle.lsm_manifest.specs.Standing.{HasSmallNumbers, StandsFor}
use Rattle.lsm_manifest.specs.Told.{Told, TellsOpen}
use Rattle.lsm_manifest.specs.Versions.{file_of, first_version}
use Rattle.lsm_commit.specs.Stored.{IsStored}
use Rattle.lsm_state.specs.Core.{versions_left, written_of}
use Rattle.lsm_recorded.specs.MarkedTables.{TablesAreInOrder}
use Rattle.lsm_recorded.specs.Recorded.{SeenRecorded}

-- what is told of the files
abbrev pub files_told : {S : Type 0} → Result (SeenRecorded S) (Error × S) → Result Opened Error
files_told (Ok r) = Ok (record { version = r.tree.core.history.latest.version; next_table_id = r.tree.core.next_table })
files_told (Err e) = Err e.0

-- the store: in the tree, or beside the error
abbrev pub store_left : {S : Type 0} → Result (SeenRecorded S) (Error × S) → S
store_left (Ok r) = r.tree.store
store_left (Err e) = e.1

-- the tree of a store is opened, or nothing is
pub record OpensRecorded {S : Type 0} (world : S → World) (store : S) (r : Result (SeenRecorded S) (Error × S)) : Type 0 where
  -- a file `version` tells an older format
  pub version : IsSome ((world store).gives (codes "version")) → Told TellsOpen IsOlder (files_told r)
  -- what `current` leads to, with tables in order, or the first thing that is wrong with it
  pub opens : (world store).gives (codes "version") ≡ None → IsSome ((world store).gives current_name) → Told TellsOpen (OpensWith TablesAreInOrder (world store).gives) (files_told r)
  -- from which number its log is read
  pub from : IsSome ((world store).gives current_name) → IfOk r (λ t. ReadsFrom (world store).gives t.tree.core.history.latest.version)
  -- what stands in order is taken: it is refused only for memory, or where a store call failed
  pub takes : (id : ℕ) (ls : Levels) (ts : SeenLevels) → StandsFor (world store).gives id ls ts → HasSmallNumbers ts → TablesAreInOrder ts → Told TellsOpen (OpensAs id ls ts) (files_told r)
  -- what stands, but not in order, is refused
  pub unordered : (id : ℕ) (ls : Levels) (ts : SeenLevels) → StandsFor (world store).gives id ls ts → HasSmallNumbers ts → (TablesAreInOrder ts → ⊥) → Told TellsOpen IsUnrecoverable (files_told r)
  -- without `current`, a new tree
  pub new : (world store).gives (codes "version") ≡ None → (world store).gives current_name ≡ None → Told TellsOpen (OpensNew (world store) (world (store_left r))) (files_told r)
  -- opened, the orphans are gone, and nothing else has changed
  pub removes : (id : ℕ) (ls : Levels) → IsNamed (world store).gives id ls → IfOk r (λ t. Removes (is_orphan id (ids_of ls)) (world store) (world t.tree.store))
  -- a crash in it takes orphans alone
  pub any_moment : (id : ℕ) (ls : Levels) → IsNamed (world store).gives id ls → LeavesOnly (world store) (world (store_left r)) (IsCleared (is_orphan id (ids_of ls)) (world store))
  -- where the names that stand have one possible content each, every image meanwhile stands for the same tables
  pub stands : (id : ℕ) (ls : Levels) (ts : SeenLevels) → StandsFor (world store).gives id ls ts → IsPinned (world store) id ls → LeavesOnly (world store) (world (store_left r)) (λ image. StandsFor image id ls ts)
  -- or it leaves what was there, or the new tree
  pub new_moment : (world store).gives current_name ≡ None → LeavesOnly (world store) (world (store_left r)) (IsOldOrNew 0 (file_of first_version) (world store))
  -- over a store that is ready to be opened a crash meanwhile leaves what it could before, or the tables that were read; the store
  -- is then ready again, whatever is answered, and after an Ok the tree's files are stored
  pub meanwhile : (ts : SeenLevels) → IsReady (world store) → Finds (world store).gives ts → OpeningLeaves (world store) (world (store_left r)) ts
  pub stored : IsReady (world store) → IfOk r (λ t. IsStored (world t.tree.store) (versions_left t.tree.core) (written_of t.tree.core))
  -- refused for a fault of its files, their order included, the store is as it was
  pub keeps : Told TellsOpen (KeepsFiles (world store) (world (store_left r))) (files_told r)
