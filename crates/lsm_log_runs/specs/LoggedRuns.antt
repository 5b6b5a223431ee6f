-- A run of steps on a logged tree, from one stage to another, jobs that wait in slots included: its one list of stages chooses every tree.
use Rattle.std.specs.Prelude.{◌≡◌, ℕ, ◌<◌, List, [], ◌∷◌, ◌++◌, Option, Result}
use Rattle.lsm_below.specs.declared.error.Error.{Error}
use Rattle.lsm_store.specs.World.{World}
use Rattle.lsm_commit.specs.Causes.{HasCause}
use Rattle.lsm_model.specs.Journal.{Event}
use Rattle.lsm_log_model.specs.Records.{LogImage, logged, opened_by}
use Rattle.lsm_run_model.specs.Moments.{last_of}
use Rattle.lsm_runs.specs.declared.slots.Job.{Job}
use Rattle.lsm_runs.specs.declared.steps.Reply.{Reply}
use Rattle.lsm_runs.specs.Causes.{ReplyBlames}
use Rattle.lsm_runs.specs.Compacting.{Strategies, reply_of}
use Rattle.lsm_runs.specs.Files.{StaysStored}
use Rattle.lsm_runs.specs.Runs.{Spares}
use Rattle.lsm_state.specs.Core.{Core}
use Rattle.lsm_state.specs.Dropping.{MayDropIds}
use Rattle.lsm_state.specs.WholeCompactions.{Compacts, options_at}
use Rattle.lsm_state.specs.declared.compaction.Begun.{Begun}
use Rattle.lsm_logged.specs.Acting.{CompactsAct}
use Rattle.lsm_logged.specs.Asking.{Asks}
use Rattle.lsm_logged.specs.Keeping.{SeenLogged}
use Rattle.lsm_log_runs.specs.declared.steps.LogStep.{LogStep}
use Rattle.lsm_log_runs.specs.declared.steps.LogStep.TheVariants.{Compact}
use Rattle.lsm_log_runs.specs.Doing.{StepDoes}
use Rattle.lsm_log_runs.specs.Dropping.{DropsBy}
use Rattle.lsm_log_runs.specs.Pasts.{LogPast}
use Rattle.lsm_log_runs.specs.Seeing.{SeesOne}
use Rattle.lsm_log_runs.specs.Slots.{LogStage, at_first, EndsLogged}
use Rattle.lsm_log_runs.specs.Stages.{CalledStage, MayBeTried, StageKeeps, StepKeeps}
use Rattle.lsm_log_runs.specs.Standing.{StandsWithJobs}

-- ---- along the stages

-- each step is the call that it is named after, and its reply blames the store only where a call of it failed in that very step
abbrev pub EachTaken : {S : Type 0} → (LogStep → Reply → LogStage S → LogStage S → Type 0) → (S → World) → List LogStep → List Reply → LogStage S → List (LogStage S) → Type 0
EachTaken Does world [] [] old [] = Unit {0}
EachTaken Does world (x ∷ steps) (r ∷ replies) old (new ∷ stages) = Does x r old new × HasCause (ReplyBlames r) (world old.tree.store) (world new.tree.store) × EachTaken Does world steps replies new stages
EachTaken Does world steps replies old stages = ⊥

-- what a snapshot sees that is answered before a step and after it stays, but where the step wrote, cleared or dropped below it
abbrev pub SparesAnswers : LogPast → LogPast → Core → Core → Type 0
SparesAnswers past next old new = (events : List Event) × (next.journal ≡ past.journal ++ events) × Spares events old new

-- a stage of a run, and what was called up to it
abbrev pub called : {S : Type 0} → LogStage S → LogPast → CalledStage (LogStage S)
called stage past = record { at = stage; past = past; counter = stage.tree.core.seqno }

-- of a step on a tree in view, which drops just what its strategy may drop of this tree: what it keeps, sees and spares, and that calls may
-- go on after it
pub record StepHolds {S : Type 0} (Stands : CalledStage (LogStage S) → Type 0) (strategies : Strategies) (world : S → World) (image : LogImage) (x : LogStep) (r : Reply) (old new : CalledStage (LogStage S)) : Type 0 where
  pub keeps : StepKeeps (DropsBy strategies old.at.tree.core x) (λ s. world s.tree.store) (opened_by image) (logged image) x r old new
  pub sees : SeesOne old.at.tree.core x r
  pub spares : SparesAnswers old.past new.past old.at.tree.core new.at.tree.core
  pub stands : Stands new

-- so of each step, between its stage and the next one, with what was called up to either: as long as each batch may be tried
abbrev pub EachHolds : {S : Type 0} → (CalledStage (LogStage S) → Type 0) → Strategies → (S → World) → LogImage → List LogStep → List Reply → CalledStage (LogStage S) → List (LogStage S) → List LogPast → Type 0
EachHolds Stands strategies world image [] [] old [] [] = Unit {0}
EachHolds Stands strategies world image (x ∷ steps) (r ∷ replies) old (stage ∷ stages) (past ∷ pasts) =
    MayBeTried (opened_by image) old.past.journal x → StepHolds Stands strategies world image x r old (called stage past) × EachHolds Stands strategies world image steps replies (called stage past) stages pasts
EachHolds Stands strategies world image steps replies old stages pasts = ⊥

-- what was called up to each stage, what holds of the first one, and what holds of the steps
pub record RunHolds {S : Type 0} (Stands : CalledStage (LogStage S) → Type 0) (strategies : Strategies) (world : S → World) (image : LogImage) (steps : List LogStep) (replies : List Reply) (old : CalledStage (LogStage S)) (stages : List (LogStage S)) : Type 0 where
  pub pasts : List LogPast
  pub first : StageKeeps (λ s. world s.tree.store) (opened_by image) (logged image) old
  pub each : EachHolds Stands strategies world image steps replies old stages pasts

-- ---- a run

-- steps with these replies, each of which does what its call does, lead through these stages
pub record RanThrough {S : Type 0} (Does : LogStep → Reply → LogStage S → LogStage S → Type 0) (world : S → World) (steps : List LogStep) (replies : List Reply) (old new : LogStage S) : Type 0 where
  -- the stage after each step
  pub stages : List (LogStage S)
  pub taken : EachTaken Does world steps replies old stages
  pub ends : last_of old stages ≡ new

-- They lead so; and over a store that tells its content, after whatever was called before, all of this holds of those very stages: nothing else
-- chooses a tree, a store or a job. `Does` says what a call does, `Stands` what stands at a stage: `StepDoes` and `StandsWithJobs`, of which a
-- reader needs no more than that each call does it, and that each opening and each step makes it stand.
pub record LoggedRun {S : Type 0} (Does : LogStep → Reply → LogStage S → LogStage S → Type 0) (Stands : LogImage → CalledStage (LogStage S) → Type 0) (tells : Type 0) (strategies : Strategies) (world : S → World) (steps : List LogStep) (replies : List Reply) (old new : LogStage S) : Type 0 where
  pub through : RanThrough Does world steps replies old new
  pub holds : tells → (image : LogImage) (past : LogPast) → Stands image (called old past) → RunHolds (Stands image) strategies world image steps replies (called old past) through.stages

-- the runs of this crate
abbrev pub RunsBetween : {S : Type 0} → Type 0 → Strategies → (S → World) → List LogStep → List Reply → LogStage S → LogStage S → Type 0
RunsBetween tells strategies world steps replies old new = LoggedRun (StepDoes strategies tells world) (StandsWithJobs world) tells strategies world steps replies old new

-- A run in one call: it begins beside free slots, and each job that waits in the end is given up, and no other.
pub record RunsWhole {S : Type 0} (tells : Type 0) (strategies : Strategies) (world : S → World) (steps : List LogStep) (replies : List Reply) (old new : SeenLogged S) : Type 0 where
  pub last : LogStage S
  pub run : RunsBetween tells strategies world steps replies (at_first old) last
  pub closes : EndsLogged last new
  -- what stands at the last stage stands in the end
  pub goes_on : (image : LogImage) (past : LogPast) → StandsWithJobs world image (called last past) → StandsWithJobs world image (called (at_first new) past)

-- ---- steps that somebody took in a loop of his own

-- Steps of which each was its public call, one after the other, are a run through just those stages.
abbrev pub StepsLead : {S : Type 0} → Type 0 → Strategies → (S → World) → Type 0
StepsLead {S} tells strategies world = (steps : List LogStep) (replies : List Reply) (old new : LogStage S) (through : RanThrough (StepDoes strategies tells world) world steps replies old new) → (run : RunsBetween tells strategies world steps replies old new) × (run.through ≡ through)

-- So are two runs, of which the second begins where the first ended, its open jobs included.
abbrev pub RunsJoin : {S : Type 0} → Type 0 → Strategies → (S → World) → Type 0
RunsJoin {S} tells strategies world = (steps more : List LogStep) (replies others : List Reply) (old mid new : LogStage S) (first : RunsBetween tells strategies world steps replies old mid) (second : RunsBetween tells strategies world more others mid new)
    → (run : RunsBetween tells strategies world (steps ++ more) (replies ++ others) old new) × (run.through.stages ≡ first.through.stages ++ second.through.stages)

-- A compaction that a strategy of the list was asked for is the step that names its index. The other calls are steps as their clauses stand.
abbrev pub CompactionsAreSteps : {S : Type 0} → Type 0 → Strategies → (S → World) → Type 0
CompactionsAreSteps {S} tells strategies world = (at watermark : ℕ) (begun : Result Begun Error) (jobs : ℕ → Option Job) (old new : SeenLogged S) → at < strategies.count
    → Asks begun old new (Compacts (strategies.may_choose at) (strategies.may_refuse at) (options_at watermark old.core) begun old.core new.core)
    → (tells → CompactsAct (MayDropIds (strategies.may_choose at) old.core) watermark begun (world old.store) (world new.store) old new) → (tells → StaysStored (world old.store) (world new.store) old.core new.core)
    → StepDoes strategies tells world (Compact at watermark) (reply_of begun) (record { tree = old; jobs = jobs }) (record { tree = new; jobs = jobs })
