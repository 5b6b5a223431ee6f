-- What an image is to an opening: a version, and the records beside it.
use Rattle.std.specs.Prelude.{◌≡◌, ◌⊎◌, ℕ, ◌<◌, ◌≤◌, ◌^◌, true, List, []}
use Rattle.std.specs.List.{AllByRecursion}
use Rattle.std.specs.FinMap.{get}
use Rattle.lsm_below.specs.Entries.{Entry, above}
use Rattle.lsm_below.specs.Keys.{Bytes}
use Rattle.lsm_below.specs.declared.error.Error.{Error}
use Rattle.lsm_below.specs.declared.error.Error.TheVariants.{OutOfMemory, Store, CommitUnknown}
use Rattle.lsm_store.specs.World.{Image, World, IsImage}
use Rattle.lsm_model.specs.Journal.{Map}
use Rattle.lsm_model.specs.Beginnings.{Stands, beginning, is_spared}
use Rattle.lsm_logged.specs.Levels.{SeenVersion, placed_of}
use Rattle.lsm_manifest.specs.Finding.{Finds}
use Rattle.lsm_manifest.specs.Ready.{IsReady}
use Rattle.lsm_log.specs.declared.record.Record.{Record}
use Rattle.lsm_log.specs.Logs.{IsBadLog}
use Rattle.lsm_log_model.specs.Numbered.{AreBelow}
use Rattle.lsm_log_model.specs.Records.{LogImage, LogStands, counted, logged, opened_by}
use Rattle.lsm_log_model.specs.Recovery.{LogRecovers}
use Rattle.lsm_logged.specs.Meanwhile.{ReadsVersion, AreReadFrom}
use Rattle.lsm_logged.specs.Opening.{CanBeSettled, image_read}
use Rattle.lsm_log_runs.specs.Pasts.{LogPast}

-- an opening reads this version in the image, and from its `log_from` on these records
pub record ReadsLog (image : Image) (v : SeenVersion) (records : List Record) : Type 0 where
  pub version : ReadsVersion image v
  pub log : AreReadFrom image v.log_from records

-- an opening reads one version in an image, and beside it one list of records
abbrev pub LogsOpenOnce : Type 0
LogsOpenOnce = (image : Image) (v w : SeenVersion) (records others : List Record) → ReadsLog image v records → ReadsLog image w others → (v ≡ w) × (records ≡ others)

-- an opening finds a version in the image, whose tables stand
pub record FindsVersion (image : Image) : Type 0 where
  pub version : SeenVersion
  pub read : ReadsVersion image version
  pub found : Finds image version.levels
  pub stands : Stands (placed_of version.levels)

-- and records beside it, and no bad log; and whatever version and records it reads there have P
pub record HoldsLogged (P : LogImage → Type 0) (image : Image) : Type 0 where
  pub finds : FindsVersion image
  pub log : (records : List Record) × ReadsLog image finds.version records
  pub good : (v : SeenVersion) → ReadsVersion image v → IsBadLog image v.log_from → ⊥
  pub reads : (v : SeenVersion) (records : List Record) → ReadsLog image v records → P (image_read v records)

-- all that an image holds is numbered below this: its entries, and the records that count; and its log begins there at most
pub record IsNumberedBelow (n : ℕ) (image : LogImage) : Type 0 where
  pub entries : above (opened_by image) ≤ n
  pub records : AllByRecursion (λ b. b.number < n) (counted image)
  pub log_from : image.log_from ≤ n

-- What is left stands for a beginning of these calls between batches, at this place or after it, to which the batch or a clear of unknown
-- outcome at that very place may be added. It is numbered below whatever is above all that was opened, written and in doubt, and below the
-- place of the counter, so that the next tree's counter starts no higher.
pub record HoldsPast (opened : List Entry) (start : Map) (past : LogPast) (least counter : ℕ) (left : LogImage) : Type 0 where
  pub recovers : LogRecovers start past.journal past.notes past.lost least left
  pub numbered : (n : ℕ) → AreBelow n opened past.journal past.lost → above (opened_by left) ≤ n
  pub under : IsNumberedBelow counter left

-- an image that an opening takes so
abbrev pub Keeps : List Entry → Map → LogPast → (least counter : ℕ) → Image → Type 0
Keeps opened start past least counter image = HoldsLogged (HoldsPast opened start past least counter) image

-- one that stands for all that was called, outside dropped ranges
abbrev pub KeepsAll : Map → LogPast → Image → Type 0
KeepsAll start past image = HoldsLogged (λ left. (k : Bytes) → is_spared k past.journal [] ≡ true → get (logged left) k ≡ get (beginning start past.journal) k) image

-- ---- stores

-- a store that an opening takes, unless a number in it is too great: it is ready to be opened, whatever a crash may leave of it stands, and
-- the log can be put on the disk as it is read
pub record CanBeRead (w : World) : Type 0 where
  pub ready : IsReady w
  pub stands : (image : Image) → IsImage w.may image → HoldsLogged LogStands image
  pub settles : (image : Image) (v : SeenVersion) → IsImage w.may image → ReadsVersion image v → CanBeSettled w v.log_from

-- all that it holds is numbered below 2^63
abbrev pub IsSmall : LogImage → Type 0
IsSmall left = above (opened_by left) ≤ 2 ^ 63

-- one that an opening takes: so is whatever a crash may leave of it
pub record LogMayBeOpened (w : World) : Type 0 where
  pub read : CanBeRead w
  pub small : (image : Image) → IsImage w.may image → HoldsLogged IsSmall image

-- why its opening is refused: for want of memory, or since a call of the store failed
abbrev pub IsWantOf : Error → Type 0
IsWantOf e = (e ≡ OutOfMemory) ⊎ ((e ≡ Store) ⊎ (e ≡ CommitUnknown))
