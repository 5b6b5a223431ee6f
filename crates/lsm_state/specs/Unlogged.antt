-- Whether a store has records of a log that count, and a tree that is opened without one.
use Rattle.std.specs.Prelude.{◌≡◌, ℕ, ◌<◌, ◌≤◌, None, Err, IsSome}
use Rattle.lsm_below.specs.declared.error.Error.{Error}
use Rattle.lsm_below.specs.declared.error.Error.TheVariants.{OutOfMemory, Store, Unrecoverable}
use Rattle.lsm_store.specs.World.{Image, World, Same}
use Rattle.lsm_versions.specs.Levels.{SeenVersion}
use Rattle.lsm_manifest.specs.Names.{current_name}
use Rattle.lsm_manifest.specs.Opening.{ReadsFrom, Opens}
use Rattle.lsm_manifest.specs.Told.{Told, TellsOpen}
use Rattle.lsm_commit.specs.Causes.{HasFailed}
use Rattle.lsm_log.specs.Logs.{IsThere, HasBadName}

-- where a log is read from: from `log_from` of the version that `current` leads to, and without `current` from 0 on
pub record IsReadFrom (image : Image) (from : ℕ) : Type 0 where
  pub version : SeenVersion
  pub reads : IsSome (image current_name) → ReadsFrom image version
  pub fresh : image current_name ≡ None → version.log_from ≡ 0
  pub from_is : version.log_from ≡ from

-- a record is there that counts
pub record HasCounted (image : Image) : Type 0 where
  pub from : ℕ
  pub read : IsReadFrom image from
  pub number : ℕ
  pub there : IsThere image number
  pub counts : from ≤ number

-- each record that is there is below the number that the log is read from
pub record HasOnlyPassed (image : Image) : Type 0 where
  pub from : ℕ
  pub read : IsReadFrom image from
  pub passed : (k : ℕ) → IsThere image k → k < from

-- why nothing is opened without a log, and nothing has changed: as the files are refused; for memory, by a fault, for a name that a log
-- refuses, or for a record that counts
pub data RefusesUnlogged (old new : World) (e : Error) : Type 0 where
  Files : Same old new → Told TellsOpen (Opens old new) (Err e) → RefusesUnlogged old new e
  Memory : Same old new → e ≡ OutOfMemory → RefusesUnlogged old new e
  Faulty : Same old new → e ≡ Store → HasFailed old new → RefusesUnlogged old new e
  BadName : Same old new → e ≡ Unrecoverable → HasBadName old.gives → RefusesUnlogged old new e
  Counted : Same old new → e ≡ Unrecoverable → HasCounted old.gives → RefusesUnlogged old new e
