-- What an image has of a log that was kept, and of the version beside it.
use Rattle.std.specs.Prelude.{◌≡◌, ℕ, ◌≤◌, List, map, Contains}
use Rattle.lsm_below.specs.Members.{IsIn}
use Rattle.lsm_store.specs.World.{Image, World, IsImage}
use Rattle.lsm_model.specs.Views.{Placed}
use Rattle.lsm_versions.specs.Levels.{SeenVersion}
use Rattle.lsm_manifest.specs.Finding.{Finds}
use Rattle.lsm_manifest.specs.Opening.{ReadsFrom}
use Rattle.lsm_commit.specs.Stored.{HoldsOneOf}
use Rattle.lsm_log.specs.declared.record.Record.{Record}
use Rattle.lsm_log_model.specs.Logs.{Logged as Log, LogIsSound, HasRecords}
use Rattle.lsm_log_model.specs.Records.{Batch}
use Rattle.lsm_logged.specs.Keeping.{KeepsLog, IsLogIn}
use Rattle.lsm_logged.specs.Meanwhile.{AreReadFrom}
use Rattle.lsm_logged.specs.Opening.{batch_read}

-- each image that a crash may leave of a store that keeps a log has the log
abbrev pub ImagesHaveLogs : (S : Type 0) → (S → World) → Type 0
ImagesHaveLogs S world = (store : S) (log : Log) (image : Image) → KeepsLog (world store) log → IsImage (world store).may image → IsLogIn log image

-- the records of a log that an image has are those that are read in it, beside whatever tables
abbrev pub RecordsAreThoseRead : Type 0
RecordsAreThoseRead = (image : Image) (tables : List Placed) (from : ℕ) (records : List Record) (log : Log) → AreReadFrom image from records → IsLogIn log image → log.log_from ≤ from → LogIsSound log
    → HasRecords (record { tables = tables; log_from = from; records = map batch_read records }) log

-- each of them that counts is read
abbrev pub CountedAreRead : Type 0
CountedAreRead = (image : Image) (from : ℕ) (records : List Record) (log : Log) → AreReadFrom image from records → IsLogIn log image
    → (b : Batch) → IsIn b log.records → from ≤ b.number → Contains (map (λ r. r.number) records) b.number

-- two versions with the same tables that an image tells read the log from the same number on
abbrev pub LogFromIsToldOnce : Type 0
LogFromIsToldOnce = (image : Image) (u v : SeenVersion) → ReadsFrom image u → ReadsFrom image v → u.levels ≡ v.levels → u.log_from ≡ v.log_from

-- what is found in an image that has one of these versions is that version
abbrev pub VersionIsToldOnce : Type 0
VersionIsToldOnce = (versions : List SeenVersion) (image : Image) (v : SeenVersion) → (one : HoldsOneOf versions image) → Finds image v.levels → ReadsFrom image v → (one.0.levels ≡ v.levels) × (one.0.log_from ≡ v.log_from)
