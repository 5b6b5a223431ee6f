-- What opening makes of a store, and of the log in it.
use Rattle.std.specs.Prelude.{◌≡◌, ◌⊎◌, ◌+◌, ◌<◌, ◌≤◌, ◌^◌, ℕ, false, List, [], map, Option, None, Result, Ok, Err, IsSome, Contains}
use Rattle.std.specs.List.{flat_map, AllByRecursion}
use Rattle.lsm_below.specs.Entries.{Entry, above}
use Rattle.lsm_below.specs.Sums.{capped}
use Rattle.lsm_below.specs.declared.error.Error.{Error}
use Rattle.lsm_below.specs.declared.error.Error.TheVariants.{OutOfMemory, Store, Unrecoverable, KeyTooLong, ValueTooLong, NumberTooGreat}
use Rattle.lsm_store.specs.World.{Image, World, Same}
use Rattle.lsm_model.specs.Ops.{op_entries}
use Rattle.lsm_versions.specs.declared.config.Config.{Config}
use Rattle.lsm_versions.specs.Configs.{raised}
use Rattle.lsm_versions.specs.Levels.{SeenVersion, placed_of}
use Rattle.lsm_manifest.specs.Finding.{Finds}
use Rattle.lsm_manifest.specs.Names.{current_name}
use Rattle.lsm_manifest.specs.Opening.{Opens, IsFound, ReadsFrom}
use Rattle.lsm_manifest.specs.Ready.{IsReady}
use Rattle.lsm_manifest.specs.Told.{Told, TellsOpen}
use Rattle.lsm_manifest.specs.Versions.{first_version}
use Rattle.lsm_commit.specs.Causes.{HasFailed}
use Rattle.lsm_commit.specs.Stored.{IsStored}
use Rattle.lsm_log.specs.declared.record.Record.{Record}
use Rattle.lsm_log.specs.declared.kinds.LogName.TheVariants.{Refused}
use Rattle.lsm_log.specs.LogNames.{record_name, kind_of}
use Rattle.lsm_log.specs.Logs.{IsRecordAt, IsLogFrom, IsBadLog}
use Rattle.lsm_log_model.specs.Records.{Batch, LogImage, LogStands, opened_by}
use Rattle.lsm_log_model.specs.Logs.{Logged as Log, MayBeDrawn}
use Rattle.lsm_log_model.specs.Replays.{IsReopened}
use Rattle.lsm_state.specs.Core.{Core, opened_core, written_all, versions_left, written_of}
use Rattle.lsm_state.specs.Opened.{found_entries}
use Rattle.lsm_logged.specs.Keeping.{SeenLogged, AreRecordNumbers, IsLogOf, KeepsLog, AreKnown}
use Rattle.lsm_logged.specs.Meanwhile.{ReadsVersion}
use Rattle.lsm_logged.specs.Removing.{Passed}

-- ---- replays

-- the entries of records that were read, record after record
abbrev pub entries_read : List Record → List Entry
entries_read records = flat_map (λ r. op_entries r.number r.ops) records

-- why records aren't read: for want of memory, by a fault of the store, or since one is none
abbrev pub RefusesReading : Error → Type 0
RefusesReading e = ((e ≡ OutOfMemory) ⊎ (e ≡ Store)) ⊎ (e ≡ Unrecoverable)

-- why a record isn't written to a tree: for want of memory, or since an entry is none that a tree takes
abbrev pub RefusesReplay : Error → Type 0
RefusesReplay e = (e ≡ OutOfMemory) ⊎ ((e ≡ KeyTooLong) ⊎ ((e ≡ ValueTooLong) ⊎ (e ≡ NumberTooGreat)))

-- why records aren't replayed: one isn't written, the store fails, or it doesn't read a record again that it read before
abbrev pub RefusesReplays : Error → Type 0
RefusesReplays e = RefusesReplay e ⊎ ((e ≡ Store) ⊎ (e ≡ Unrecoverable))

-- a record of each of these numbers was written, in their order; where the store tells, it is the one that the image has
pub record ReplaysEach (tells : Type 0) (image : Image) (numbers : List ℕ) (old new : Core) : Type 0 where
  pub records : List Record
  pub named : map (λ r. r.number) records ≡ numbers
  pub core : new ≡ written_all (entries_read records) old
  pub records_are : tells → AllByRecursion (λ r. IsRecordAt image r.number r) records

-- ---- what is opened

-- a record that was read, as a batch
abbrev pub batch_read : Record → Batch
batch_read r = record { number = r.number; ops = r.ops }

-- what a version is to the theory, with the records beside it that were read
abbrev pub image_read : SeenVersion → List Record → LogImage
image_read v records = record { tables = placed_of v.levels; log_from = v.log_from; records = map batch_read records }

abbrev pub version_of : {S : Type 0} → SeenLogged S → SeenVersion
version_of t = t.core.history.latest.version

-- it is just above one of these numbers, or 0
abbrev pub IsJustAbove : ℕ → List ℕ → Type 0
IsJustAbove n numbers = (n ≡ 0) ⊎ ((k : ℕ) × Contains numbers k × (n ≡ k + 1))

-- the tree of the version, to which these records are written; its counters start above all numbers that were met, and at `log_from`
-- at least, and no higher
pub record Replays {S : Type 0} (config : Config) (passed : List ℕ) (records : List Record) (t : SeenLogged S) : Type 0 where
  pub least : ℕ
  pub core : t.core ≡ written_all (entries_read records) (opened_core (raised least (raised (capped (above (found_entries t.core))) config)) (version_of t) t.core.next_table)
  pub above_version : (version_of t).log_from ≤ least
  pub above_passed : AreRecordNumbers least passed
  pub above_records : AreRecordNumbers least (map (λ r. r.number) records)
  pub least_is : (least ≡ (version_of t).log_from) ⊎ (IsJustAbove least passed ⊎ IsJustAbove least (map (λ r. r.number) records))
  pub numbers : t.numbers ≡ map (λ r. r.number) records
  pub sure : t.doubted ≡ false

-- what a store told of a log, of which the records below the version's `log_from` are removed
pub record TakesLog (old new : World) (v : SeenVersion) (passed : List ℕ) (records : List Record) : Type 0 where
  pub version : IsSome (old.gives current_name) → ReadsFrom old.gives v
  -- which version it is: the first one without `current`, else one with the tables that the store had
  pub fresh : old.gives current_name ≡ None → v ≡ first_version
  pub found : IsSome (old.gives current_name) → Finds old.gives v.levels
  pub log : IsLogFrom old.gives v.log_from passed records
  pub gone : (k : ℕ) → Contains passed k → new.gives (record_name k) ≡ None
  -- no other record is there: none below `log_from`
  pub known : AreKnown new (map (λ r. r.number) records)
  pub passed_on : Passed v.log_from old new

-- the id of the next table is just above those of the tables that the version names, and 0 in a new tree
pub record IsNextTable (image : Image) (v : SeenVersion) (next : ℕ) : Type 0 where
  pub found : IsSome (image current_name) → (ids : List ℕ) × IsFound image v.id v.levels next ids
  pub fresh : image current_name ≡ None → next ≡ 0

-- of each record from here on, and of each name that a log refuses, not any bytes can be left: so opening can put on the disk what it
-- reads of them. It is so after a crash, and where a process that kept its log was killed (`logs_can_be_settled`)
pub record CanBeSettled (w : World) (from : ℕ) : Type 0 where
  pub records : (k : ℕ) → k < 2 ^ 63 → from ≤ k → (impossible : Option (List ℕ)) × ¬ w.may (record_name k) impossible
  pub refused : (n : List ℕ) → kind_of n ≡ Refused → (impossible : Option (List ℕ)) × ¬ w.may n impossible

-- as the theory sees it: the reopened tree of the image, whose records are in the store, and whose counter is above them
pub record IsReopenedLog {S : Type 0} (image : LogImage) (t : SeenLogged S) (w : World) : Type 0 where
  pub first : Log
  pub reopened : IsReopened image first
  pub is : IsLogOf [] [] t.core t.doubted first
  pub next : MayBeDrawn (opened_by image) first t.core.seqno
  pub keeps : KeepsLog w first

-- what is opened over a store
pub record OpensLogged {S : Type 0} (tells : Type 0) (world : S → World) (store : S) (config : Config) (t : SeenLogged S) : Type 0 where
  pub passed : List ℕ
  pub records : List Record
  pub replays : Replays config passed records t
  pub takes : tells → TakesLog (world store) (world t.store) (version_of t) passed records
  pub next : tells → IsNextTable (world store).gives (version_of t) t.core.next_table
  pub reopens : tells → LogStands (image_read (version_of t) records) → CanBeSettled (world store) (version_of t).log_from → IsReopenedLog (image_read (version_of t) records) t (world t.store)
  pub stored : tells → IsReady (world store) → IsStored (world t.store) (versions_left t.core) (written_of t.core)

-- ---- what is refused

-- the store: in the tree, or beside the error
abbrev pub logged_left : {S : Type 0} → Result (SeenLogged S) (Error × S) → S
logged_left (Ok t) = t.store
logged_left (Err e) = e.1

-- the tree, or the error without the store beside it
abbrev pub logged_told : {S : Type 0} → Result (SeenLogged S) (Error × S) → Result (SeenLogged S) Error
logged_told (Ok t) = Ok t
logged_told (Err e) = Err e.0

-- the log is bad, from the `log_from` on of the version that is read; then nothing is done
pub record IsBadFrom (old new : World) : Type 0 where
  pub version : SeenVersion
  pub read : ReadsVersion old.gives version
  pub bad : IsBadLog old.gives version.log_from
  pub same : Same old new

-- as an opening of the tree's files is refused; or for want of memory, or by a fault of the store, which then failed; or for the log
pub data RefusesLogged (old new : World) (e : Error) : Type 0 where
  Files : Told TellsOpen (Opens old new) (Err e) → RefusesLogged old new e
  Memory : e ≡ OutOfMemory → RefusesLogged old new e
  Faulty : e ≡ Store → HasFailed old new → RefusesLogged old new e
  BadLog : e ≡ Unrecoverable → IsBadFrom old new → RefusesLogged old new e
