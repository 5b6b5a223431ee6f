-- What holds at each stage of a life or a run, of each step between two of them, and of what a crash leaves there.
use Rattle.std.specs.Prelude.{◌≡◌, ℕ, ◌+◌, ◌≤◌, ◌^◌, true, List}
use Rattle.std.specs.List.{AllByRecursion}
use Rattle.lsm_below.specs.Entries.{Entry}
use Rattle.lsm_below.specs.Ranges.{Range}
use Rattle.lsm_store.specs.World.{World, LeavesOnly}
use Rattle.lsm_commit.specs.Causes.{HasCause}
use Rattle.lsm_model.specs.Journal.{Event, Map}
use Rattle.lsm_log_model.specs.Numbered.{AreBelow}
use Rattle.lsm_run_model.specs.Lives.{LeavesReady}
use Rattle.lsm_run_model.specs.Moments.{LeavesNow}
use Rattle.lsm_runs.specs.declared.steps.Reply.{Reply}
use Rattle.lsm_runs.specs.Causes.{ReplyBlames}
use Rattle.lsm_log_runs.specs.declared.steps.LogStep.{LogStep}
use Rattle.lsm_log_runs.specs.declared.steps.LogStep.TheVariants.{Write}
use Rattle.lsm_log_runs.specs.Pasts.{LogPast, acknowledged}
use Rattle.lsm_log_runs.specs.Adds.{LogAdds}
use Rattle.lsm_log_runs.specs.Reads.{read_of, AnswersRead}
use Rattle.lsm_log_runs.specs.Images.{Keeps, KeepsAll, LogMayBeOpened}
use Rattle.lsm_log_runs.specs.Trying.{IsOverOne, HasReason}

-- a stage: a store, or a tree on one; what was called up to it; and where its counter stands
pub record CalledStage (F : Type 0) : Type 0 where
  pub at : F
  pub past : LogPast
  pub counter : ℕ

-- a step answers right, if it reads
abbrev pub Answers : List Entry → Map → List Event → LogStep → Reply → Type 0
Answers opened start journal step reply = AnswersRead opened start journal (read_of step) reply

-- a batch may be tried: each key that it removes weakly was set once at most so far. Then the journal stays in order, since no step draws
-- or sets a counter itself
abbrev pub MayBeTried : List Entry → List Event → LogStep → Type 0
MayBeTried opened journal (Write ops) = AllByRecursion (IsOverOne opened journal) ops
MayBeTried opened journal step = Unit {0}

-- before the first step and after each: a crash leaves a beginning that holds all that is acknowledged, and all that was called while every
-- outcome is known; the process may end there, and another one opens the store; and all is numbered below 2^63
pub record StageKeeps {F : Type 0} (world : F → World) (opened : List Entry) (start : Map) (s : CalledStage F) : Type 0 where
  pub now : LeavesNow (world s.at) (Keeps opened start s.past (acknowledged s.past) s.counter)
  pub whole : s.past.known ≡ true → LeavesNow (world s.at) (KeepsAll start s.past)
  pub again : LogMayBeOpened (world s.at)
  pub small : AreBelow (2 ^ 63) opened s.past.journal s.past.lost

-- one step, which may drop such ranges
pub record StepKeeps {F : Type 0} (May : List Range → Type 0) (world : F → World) (opened : List Entry) (start : Map) (step : LogStep) (reply : Reply) (old new : CalledStage F) : Type 0 where
  pub adds : LogAdds May old.counter step reply old.past new.past
  -- it draws one number at most
  pub draws : (old.counter ≤ new.counter) × (new.counter ≤ old.counter + 1)
  pub answers : Answers opened start old.past.journal step reply
  -- a batch is refused for its reason, and a reply blames the store only where a call of it failed in this step
  pub reason : HasReason old.counter old.past.known step reply
  pub cause : HasCause (ReplyBlames reply) (world old.at) (world new.at)
  -- in it a crash leaves a beginning that holds all that was acknowledged before it, and a process that is killed leaves what another one opens
  pub inside : LeavesOnly (world old.at) (world new.at) (Keeps opened start new.past (acknowledged old.past) new.counter)
  pub kills : LeavesReady LogMayBeOpened world old.at new.at
  pub then : StageKeeps world opened start new
