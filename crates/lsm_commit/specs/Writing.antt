-- Tables that are written under the next ids.
use Rattle.std.specs.Prelude.{◌≡◌, ◌≢◌, ◌⊎◌, ℕ, ◌+◌, ◌<◌, ◌≤◌, ◌^◌, List, length, map, flat_map, Result, IfErr, IsErrOf}
use Rattle.std.specs.List.{AllByRecursion}
use Rattle.lsm_below.specs.declared.error.Error.{Error}
use Rattle.lsm_below.specs.declared.error.Error.TheVariants.{OutOfMemory, Store, OutOfNumbers}
use Rattle.lsm_below.specs.Entries.{Entry}
use Rattle.lsm_below.specs.Runs.{IsRun}
use Rattle.lsm_store.specs.World.{Image, World, LeavesOnly}
use Rattle.lsm_tables.specs.Cutting.{IsCutting}
use Rattle.lsm_tables.specs.Tables.{SeenTable}
use Rattle.lsm_versions.specs.Levels.{SeenVersion, range, all_of, HasOwnIds}
use Rattle.lsm_versions.specs.declared.config.TheConstants.{LIMIT}
use Rattle.lsm_manifest.specs.Names.{table_name}
use Rattle.lsm_commit.specs.declared.tables.TheConstants.{TABLE_TARGET}
use Rattle.lsm_commit.specs.Stored.{IsStored, Keeps, Leaves, CountsFaults}
use Rattle.lsm_commit.specs.Foreign.{Passes}

-- the tables that hold these entries, made at this moment, each cut where it has the target of 64 MiB, under ids from first on and below
-- next, of which each table has one
pub record HoldEntries (made_at : ℕ) (entries : List Entry) (first next : ℕ) (tables : List SeenTable) : Type 0 where
  pub whole : flat_map (λ t. t.entries) tables ≡ entries
  pub cut : IsCutting TABLE_TARGET entries (map (λ t. t.entries) tables)
  pub made : AllByRecursion (λ t. t.created_at ≡ made_at) tables
  pub run : IsRun range tables
  pub fresh : AllByRecursion (λ t. first ≤ t.id) tables
  pub below : AllByRecursion (λ t. t.id < next) tables
  pub own_ids : HasOwnIds tables
  pub drawn : next ≡ first + length tables

-- the name of no table from this id on
abbrev pub IsElsewhere : ℕ → List ℕ → Type 0
IsElsewhere first n = (i : ℕ) → first ≤ i → i < 2 ^ 64 → n ≢ table_name i

-- beside tables' files from this id on nothing has changed
abbrev pub KeepsElsewhere : ℕ → World → World → Type 0
KeepsElsewhere first old new = Keeps (IsElsewhere first) old new

-- an image in which each name beside them has what it could have before
abbrev pub IsKeptElsewhere : ℕ → World → Image → Type 0
IsKeptElsewhere first old left = (n : List ℕ) → IsElsewhere first n → old.may n (left n)

-- the tables of these versions have ids below this one
abbrev pub AreBelow : ℕ → List SeenVersion → Type 0
AreBelow first versions = AllByRecursion (λ v. AllByRecursion (λ t. t.id < first) (all_of v.levels)) versions

-- whatever versions are stored, with tables of lesser ids, they stay so, and a crash meanwhile leaves one of them
abbrev pub KeepsStored : ℕ → World → World → Type 0
KeepsStored first old new = (versions : List SeenVersion) (written : List SeenTable) → IsStored old versions written → AreBelow first versions → AllByRecursion (λ t. t.id < first) written
    → IsStored new versions written × Leaves old new versions

-- while tables' files are written from this id on, answered or not, all else stays, also in what a crash meanwhile leaves: so what is
-- stored of lesser ids, and foreign names
pub record WritesFrom (first : ℕ) (old new : World) : Type 0 where
  pub keeps : KeepsElsewhere first old new
  pub any_moment : LeavesOnly old new (IsKeptElsewhere first old)
  pub stored : KeepsStored first old new
  pub passes : Passes old new

-- such writing is refused for want of memory, where a call of the store failed, or where the next id is 2^63 or more, and the store's
-- count of failures tells it
pub record RefusesWriting {T : Type 0} (r : Result T Error) (next : ℕ) (old new : World) : Type 0 where
  pub out_of_numbers : IsErrOf r OutOfNumbers → LIMIT ≤ next
  pub only : IfErr r (λ e. ((e ≡ OutOfMemory) ⊎ (e ≡ Store)) ⊎ (e ≡ OutOfNumbers))
  pub counts : CountsFaults old new r
