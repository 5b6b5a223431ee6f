-- Life after life of a logged tree: each ends by a crash, or as its process ends or is killed, and the next one opens what it left.
use Rattle.std.specs.Prelude.{◌≡◌, ◌⊎◌, ℕ, List, [], ◌∷◌, None}
use mathlib.Core.Logic.{inl, inr}
use Rattle.std.specs.List.{AllByRecursion}
use Rattle.lsm_below.specs.Entries.{Entry}
use Rattle.lsm_store.specs.World.{Image, World, IsImage, Begins}
use Rattle.lsm_model.specs.Journal.{Map}
use Rattle.lsm_model.specs.declared.op.Op.TheVariants.{Weak}
use Rattle.lsm_log_model.specs.Records.{logged, opened_by}
use Rattle.lsm_logged.specs.Meanwhile.{LeavesAsBefore}
use Rattle.lsm_logged.specs.Opening.{image_read}
use Rattle.lsm_run_model.specs.Lives.{End, EndsIn, TakesUp}
use Rattle.lsm_run_model.specs.Moments.{last_of}
use Rattle.lsm_runs.specs.declared.steps.Reply.{Reply}
use Rattle.lsm_runs.specs.Dropping.{Drops}
use Rattle.lsm_log_runs.specs.declared.steps.LogStep.{LogStep}
use Rattle.lsm_log_runs.specs.declared.steps.LogStep.TheVariants.{Write}
use Rattle.lsm_log_runs.specs.Images.{Keeps, CanBeRead, LogMayBeOpened}
use Rattle.lsm_log_runs.specs.Living.{opened_at, LivesLogged}
use Rattle.lsm_log_runs.specs.Pasts.{LogPast, acknowledged}
use Rattle.lsm_log_runs.specs.Stages.{CalledStage}

-- a batch that removes nothing weakly, and any other step
abbrev pub IsUsualCall : LogStep → Type 0
IsUsualCall (Write ops) = AllByRecursion (λ p. p.1 ≡ Weak → ⊥) ops
IsUsualCall step = Unit {0}

-- the stage before the last step; the one after opening, where there is none
abbrev pub before_last : {F : Type 0} → (earlier was : CalledStage F) → List (CalledStage F) → CalledStage F
before_last earlier was [] = earlier
before_last earlier was (is ∷ stages) = before_last was is stages

-- a life ended in what led from one store to another, or after it, and the next one takes up what it left
pub record PassesOn {F : Type 0} (world : F → World) (before is next : F) : Type 0 where
  pub end : End F
  pub ends : EndsIn world (world before) (world is) end
  pub takes : TakesUp world end next

-- a life of usual steps on one store, in the last of which, or after it, it ended, and what the next one takes up
pub record LoggedLife {F : Type 0} (May : Drops) (world : F → World) (was next : F) : Type 0 where
  pub steps : List LogStep
  pub replies : List Reply
  pub is : F
  pub from : ℕ
  pub life : LivesLogged May world from steps replies was is
  pub usual : AllByRecursion IsUsualCall steps
  pub then : let first = opened_at life.first life.counter in PassesOn world (before_last first first life.stages).at is next

-- that much is kept of some calls, whatever a crash may leave of the store
abbrev pub StillKept : List Entry → Map → LogPast → (least counter : ℕ) → World → Type 0
StillKept opened start past least counter w = (image : Image) → IsImage w.may image → Keeps opened start past least counter image

-- The next one may be opened, and is kept of the life: it stands for a beginning of its calls between batches, which holds all that was
-- acknowledged before the last step; and what that acknowledged too, where the end came after it.
pub record GoesWell {F : Type 0} (May : Drops) (world : F → World) (was next : F) (l : LoggedLife May world was next) : Type 0 where
  pub opens : LogMayBeOpened (world next)
  pub keeps : let left = image_read l.life.version l.life.records in let first = opened_at l.life.first l.life.counter in let last = last_of first l.life.stages in
      StillKept (opened_by left) (logged left) last.past (acknowledged (before_last first first l.life.stages).past) last.counter (world next)
  pub behind : let left = image_read l.life.version l.life.records in let last = last_of (opened_at l.life.first l.life.counter) l.life.stages in
      (image : Image) → IsImage (world next).may image → (world l.is).since (world l.is).moment image → Keeps (opened_by left) (logged left) last.past (acknowledged last.past) last.counter image

-- a life that ends in its opening, whatever that was to answer: by a crash or a kill at any moment of it, or where it gave back its store
pub record OpeningLife {F : Type 0} (world : F → World) (was next : F) : Type 0 where
  pub is : F
  pub may : CanBeRead (world was)
  pub leaves : LeavesAsBefore (world was) (world is)
  pub then : PassesOn world was is next

-- The next one can be read, and may be opened where the one before might; and of the calls before all is kept that was.
pub record GoesOn {F : Type 0} (world : F → World) (was next : F) : Type 0 where
  pub reads : CanBeRead (world next)
  pub opens : LogMayBeOpened (world was) → LogMayBeOpened (world next)
  pub keeps : (opened : List Entry) (start : Map) (past : LogPast) (least counter : ℕ) → StillKept opened start past least counter (world was) → StillKept opened start past least counter (world next)

-- one life after the other, each on what the one before left
abbrev pub LoggedLives : {F : Type 0} → Drops → (F → World) → F → List F → Type 0
LoggedLives May world was [] = Unit {0}
LoggedLives May world was (next ∷ more) = (LoggedLife May world was next ⊎ OpeningLife world was next) × LoggedLives May world next more

abbrev pub LeavesWell : {F : Type 0} (May : Drops) (world : F → World) (was next : F) → LoggedLife May world was next ⊎ OpeningLife world was next → Type 0
LeavesWell May world was next (inl life) = GoesWell May world was next life
LeavesWell May world was next (inr opening) = GoesOn world was next

abbrev pub AllGoWell : {F : Type 0} (May : Drops) (world : F → World) (was : F) (nexts : List F) → LoggedLives May world was nexts → Type 0
AllGoWell May world was [] lives = Unit {0}
AllGoWell May world was (next ∷ more) lives = LeavesWell May world was next lives.0 × AllGoWell May world next more lives.1

-- where the strategies of each life drop just what may be dropped
abbrev pub AnyNumberOfLoggedLives : {F : Type 0} → Drops → (F → World) → Type 0
AnyNumberOfLoggedLives {F} May world = (was : F) (nexts : List F) (lives : LoggedLives May world was nexts) → AllGoWell May world was nexts lives

abbrev pub OpeningsAreLoggedLives : {F : Type 0} → (F → World) → Type 0
OpeningsAreLoggedLives {F} world = (was next : F) → OpeningLife world was next → GoesOn world was next

-- A new store may be opened, so lives may begin.
abbrev pub NewLogsOpen : {F : Type 0} → (F → World) → Type 0
NewLogsOpen {F} world = (store : F) → Begins (λ name. None) (world store) → LogMayBeOpened (world store)
