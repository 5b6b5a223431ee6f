-- A logged tree from its opening on.
use Rattle.std.specs.Prelude.{◌≡◌, ℕ, ◌<◌, ◌≤◌, ◌^◌, max, List, [], ◌∷◌}
use Rattle.lsm_below.specs.Entries.{Entry, above}
use Rattle.lsm_below.specs.declared.error.Error.{Error}
use Rattle.lsm_store.specs.World.{World, Begins}
use Rattle.lsm_model.specs.Journal.{Map}
use Rattle.lsm_logged.specs.Config.{Config}
use Rattle.lsm_logged.specs.Levels.{SeenVersion}
use Rattle.lsm_manifest.specs.Finding.{RefusesFound}
use Rattle.lsm_log.specs.declared.record.Record.{Record}
use Rattle.lsm_log_model.specs.Numbered.{AreBelow}
use Rattle.lsm_log_model.specs.Records.{logged, opened_by}
use Rattle.lsm_run_model.specs.Moments.{last_of}
use Rattle.lsm_runs.specs.Compacting.{Strategies}
use Rattle.lsm_runs.specs.Dropping.{Drops}
use Rattle.lsm_runs.specs.declared.steps.Reply.{Reply}
use Rattle.lsm_logged.specs.Keeping.{SeenLogged}
use Rattle.lsm_logged.specs.Meanwhile.{LeavesAsBefore}
use Rattle.lsm_logged.specs.Opening.{OpensLogged, RefusesLogged, image_read, version_of}
use Rattle.lsm_log_runs.specs.declared.steps.LogStep.{LogStep}
use Rattle.lsm_log_runs.specs.Dropping.{MayDropBy}
use Rattle.lsm_log_runs.specs.Images.{ReadsLog, IsNumberedBelow, Keeps, CanBeRead, LogMayBeOpened, IsWantOf}
use Rattle.lsm_log_runs.specs.LoggedRuns.{called, RunsWhole}
use Rattle.lsm_log_runs.specs.Pasts.{LogPast, nothing}
use Rattle.lsm_log_runs.specs.Slots.{at_first}
use Rattle.lsm_log_runs.specs.Stages.{CalledStage, MayBeTried, StageKeeps, StepKeeps}
use Rattle.lsm_log_runs.specs.Standing.{StandsWithJobs}

-- nothing was called
abbrev pub opened_at : {F : Type 0} → F → ℕ → CalledStage F
opened_at is counter = record { at = is; past = nothing; counter = counter }

-- along steps, their replies, and a stage after each of them: as long as each batch may be tried
abbrev pub EachKeeps : {F : Type 0} → Drops → (F → World) → List Entry → Map → List LogStep → List Reply → CalledStage F → List (CalledStage F) → Type 0
EachKeeps May world opened start [] [] old [] = Unit {0}
EachKeeps May world opened start (x ∷ steps) (r ∷ replies) old (new ∷ stages) =
    MayBeTried opened old.past.journal x → StepKeeps (MayDropBy May x) world opened start x r old new × EachKeeps May world opened start steps replies new stages
EachKeeps May world opened start steps replies old stages = ⊥

-- A logged tree was opened on a store, its counter at this number or just above what was found, and took steps with these replies. The calls
-- began with the map that what it read stands for.
pub record LivesLogged {F : Type 0} (May : Drops) (world : F → World) (from : ℕ) (steps : List LogStep) (replies : List Reply) (was is : F) : Type 0 where
  pub version : SeenVersion
  pub records : List Record
  pub read : ReadsLog (world was).gives version records
  -- the store after opening, and the counter, which is above all that was read, and no higher than what is above that
  pub first : F
  pub counter : ℕ
  pub above_found : above (opened_by (image_read version records)) ≤ counter
  pub starts : (n : ℕ) → IsNumberedBelow n (image_read version records) → counter ≤ max from n
  -- a snapshot of 2^64 - 1 sees all of it
  pub fits : counter < 2 ^ 64
  -- while it was opened a crash left what reads as before, so the life may have ended there (`OpeningLife`), and no call failed
  pub opening : LeavesAsBefore (world was) (world first)
  pub quiet : (world first).failures ≡ (world was).failures
  -- the stages after each step: no other field chooses what was called, or a store
  pub stages : List (CalledStage F)
  pub ends : (last_of (opened_at first counter) stages).at ≡ is
  pub begins : let left = image_read version records in StageKeeps world (opened_by left) (logged left) (opened_at first counter)
  pub keeps : let left = image_read version records in EachKeeps May world (opened_by left) (logged left) steps replies (opened_at first counter) stages

-- What `Logged::open` makes of a store takes steps with these replies, each of them the call that it is named after, and is this tree then.
pub record OpensAndRunsLogged {S : Type 0} (tells : Type 0) (world : S → World) (strategies : Strategies) (config : Config) (steps : List LogStep) (replies : List Reply) (store : S) (new : SeenLogged S) : Type 0 where
  pub first : SeenLogged S
  pub opens : OpensLogged tells world store config first
  pub run : RunsWhole tells strategies world steps replies first new

-- What is opened on such a store stands beside free slots, with nothing called so far: calls go on from it.
abbrev pub OpenedLogsStand : {S : Type 0} → Type 0 → (S → World) → Type 0
OpenedLogsStand {S} tells world = (store : S) (config : Config) (t : SeenLogged S) (opens : OpensLogged tells world store config t) → tells → CanBeRead (world store) → StandsWithJobs world (image_read (version_of t) opens.records) (called (at_first t) nothing)

-- A run on what is opened is a life: of calls that leave what reads as before while the store is opened, none of which failed, and on a tree
-- whose counter is below 2^64. `Logged::open` says so much where it answers Ok.
abbrev pub OpenedRunsAreLives : {S : Type 0} → Drops → Type 0 → Strategies → (S → World) → Type 0
OpenedRunsAreLives {S} May tells strategies world = (store : S) (config : Config) (t new : SeenLogged S) (opens : OpensLogged tells world store config t) → CanBeRead (world store) → LeavesAsBefore (world store) (world t.store) → (world t.store).failures ≡ (world store).failures → t.core.seqno < 2 ^ 64
    → (steps : List LogStep) (replies : List Reply) → RunsWhole tells strategies world steps replies t new → LivesLogged May world config.seqno steps replies store new.store

-- What a crash left can be read: a store that has just what reads of it give, where that is kept of some calls. It may be opened, where all
-- that these opened, wrote and left in doubt is numbered below 2^63.
abbrev pub CrashedLogsOpen : {F : Type 0} → (F → World) → Type 0
CrashedLogsOpen {F} world = (opened : List Entry) (start : Map) (past : LogPast) (least counter : ℕ) (next : F) → Begins (world next).gives (world next) → Keeps opened start past least counter (world next).gives
    → CanBeRead (world next) × (AreBelow (2 ^ 63) opened past.journal past.lost → LogMayBeOpened (world next))

-- An opening of a store that can be read is refused only for want of memory, a fault of the store, or a sequence number of 2^63 or more; of
-- one that may be opened, never for a number.
abbrev pub StandingLogsAreTaken : {F : Type 0} → (F → World) → Type 0
StandingLogsAreTaken {F} world = (old new : F) (e : Error) → RefusesLogged (world old) (world new) e → (CanBeRead (world old) → RefusesFound (world old).gives e) × (LogMayBeOpened (world old) → IsWantOf e)
