-- Opening a store, whose tables are to meet something more.
use Rattle.std.specs.Prelude.{◌≡◌, ◌⊎◌, ℕ, List, Result, Ok, Err}
use Rattle.lsm_store.specs.World.{Image}
use Rattle.lsm_versions.specs.Levels.{Levels as SeenLevels}
use Rattle.lsm_manifest.specs.declared.fault.Fault.TheVariants.{Unrecoverable}
use Rattle.lsm_manifest.specs.declared.fault.OpenError.{OpenError}
use Rattle.lsm_manifest.specs.declared.fault.OpenError.TheVariants as opening
use Rattle.lsm_manifest.specs.declared.opening.Opened.{Opened}
use Rattle.lsm_manifest.specs.Opening.{IsFound, FilesFault, OpensFiles, OnlyFault}

-- `current` leads to tables that don't meet it
pub record FindsOthers (P : SeenLevels → Type 0) (image : Image) : Type 0 where
  pub id : ℕ
  pub tables : SeenLevels
  pub next : ℕ
  pub ids : List ℕ
  pub found : IsFound image id tables next ids
  pub others : P tables → ⊥

-- what comes of the files that `current` leads to: their tables meet it, or there is a first thing that is wrong with the files,
-- or the tables don't meet it
abbrev pub OpensWith : (SeenLevels → Type 0) → Image → Result Opened OpenError → Type 0
OpensWith P image (Ok o) = OpensFiles image (Ok o) × P o.version.levels
OpensWith P image (Err opening.OutOfMemory) = Unit {0}
OpensWith P image (Err opening.Store) = Unit {0}
OpensWith P image (Err opening.CommitUnknown) = ⊥
OpensWith P image (Err (opening.Fault f)) = FilesFault image f ⊎ ((f ≡ Unrecoverable) × FindsOthers P image)

-- refused as unrecoverable, unless memory ran out or a store call failed
abbrev pub IsUnrecoverable : {T : Type 0} → Result T OpenError → Type 0
IsUnrecoverable = OnlyFault Unrecoverable
