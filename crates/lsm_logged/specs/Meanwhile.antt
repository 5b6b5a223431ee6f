-- What an opening reads in an image, and what a crash leaves while it runs.
use Rattle.std.specs.Prelude.{◌≡◌, ◌⊎◌, ◌↔◌, ◌<◌, ◌≤◌, ◌^◌, ℕ, List, map, None, IsSome, Contains}
use Rattle.std.specs.List.{AllByRecursion}
use Rattle.std.specs.List.Sorted.{IsStrictlyIncreasing}
use Rattle.lsm_store.specs.World.{Image, World, IsImage, LeavesOnly}
use Rattle.lsm_versions.specs.Levels.{Levels, SeenVersion}
use Rattle.lsm_manifest.specs.Finding.{Finds}
use Rattle.lsm_manifest.specs.Names.{current_name}
use Rattle.lsm_manifest.specs.Opening.{ReadsFrom}
use Rattle.lsm_manifest.specs.Ready.{IsReady}
use Rattle.lsm_manifest.specs.Versions.{first_version}
use Rattle.lsm_log.specs.declared.record.Record.{Record}
use Rattle.lsm_log.specs.declared.kinds.LogName.TheVariants.{Refused}
use Rattle.lsm_log.specs.LogNames.{record_name, kind_of}
use Rattle.lsm_log.specs.Logs.{HasGoodNames, IsThere, IsRecordAt, IsLogFrom}

-- ---- what is read

-- an opening reads this version in the image: the first one where there is no `current`
pub record ReadsVersion (image : Image) (v : SeenVersion) : Type 0 where
  pub version : IsSome (image current_name) → ReadsFrom image v
  pub found : IsSome (image current_name) → Finds image v.levels
  pub fresh : image current_name ≡ None → v ≡ first_version

-- these are the records of a log from a number on, rising, and the log refuses no name
pub record AreReadFrom (image : Image) (from : ℕ) (records : List Record) : Type 0 where
  pub good : HasGoodNames image
  pub are : (k : ℕ) → Contains (map (λ r. r.number) records) k ↔ (IsThere image k × (from ≤ k))
  pub rise : IsStrictlyIncreasing (map (λ r. r.number) records)
  pub records_are : AllByRecursion (λ r. IsRecordAt image r.number r) records

-- as of a log that was checked
pub log_is_read : (image : Image) (from : ℕ) (passed : List ℕ) (records : List Record) → IsLogFrom image from passed records → AreReadFrom image from records
log_is_read image from passed records log = record { good = log.are.good; are = log.read_are; rise = log.read_rise; records_are = log.records_are }

-- ---- what a crash leaves meanwhile

-- in the image stands what an opening reads in another one: the same version with its tables, and from its `log_from` on the same
-- records; those below may be gone
pub record ReadsSame (was image : Image) : Type 0 where
  -- by the same `current`, or there was none, and the first version was read
  pub current : (image current_name ≡ was current_name) ⊎ (was current_name ≡ None)
  pub version : (v : SeenVersion) → ReadsVersion was v → ReadsVersion image v
  pub tables : (ts : Levels) → Finds was ts → Finds image ts
  pub records : (v : SeenVersion) (k : ℕ) → ReadsVersion was v → k < 2 ^ 63 → v.log_from ≤ k → image (record_name k) ≡ was (record_name k)
  pub names : (n : List ℕ) → kind_of n ≡ Refused → image n ≡ was n

-- one that a crash could leave before
abbrev pub ReadsAsBefore : World → Image → Type 0
ReadsAsBefore old image = (was : Image) × IsImage old.may was × ReadsSame was image

-- At each moment of an opening a crash leaves what reads as something that it could leave before; and whatever is answered, the store
-- is ready to be opened again.
pub record LeavesAsBefore (old new : World) : Type 0 where
  pub meanwhile : LeavesOnly old new (ReadsAsBefore old)
  pub again : IsReady new
