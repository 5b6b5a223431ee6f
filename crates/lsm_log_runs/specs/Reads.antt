-- Steps of a logged tree that only read its tree: each is the step of `run` of the same name.
use Rattle.std.specs.Prelude.{◌≡◌, List, Option, Some, None}
use Rattle.lsm_below.specs.Entries.{Entry}
use Rattle.lsm_model.specs.Journal.{Event, Map}
use Rattle.lsm_runs.specs.declared.steps.Reply.{Reply}
use Rattle.lsm_runs.specs.declared.steps.Step.{Step}
use Rattle.lsm_runs.specs.declared.steps.Step.TheVariants as run
use Rattle.lsm_runs.specs.Compacting.{Strategies}
use Rattle.lsm_runs.specs.Runs.{TakesAlone as TakesInRun, StepAnswers}
use Rattle.lsm_logged.specs.Keeping.{SeenLogged}
use Rattle.lsm_log_runs.specs.declared.steps.LogStep.{LogStep}
use Rattle.lsm_log_runs.specs.declared.steps.LogStep.TheVariants.{Get, GetInternalEntry, ContainsKey, SizeOf, Range, Iter, Prefix, Len, IsEmpty, FirstKeyValue, LastKeyValue, Count as CountOf, IsCompacting, TreeType}

-- that step; none, where more than the tree is read, or anything is done
abbrev pub read_of : LogStep → Option Step
read_of (Get k s) = Some (run.Get k s)
read_of (GetInternalEntry k s) = Some (run.GetInternalEntry k s)
read_of (ContainsKey k s) = Some (run.ContainsKey k s)
read_of (SizeOf k s) = Some (run.SizeOf k s)
read_of (Range low high s) = Some (run.Range low high s)
read_of (Iter s) = Some (run.Iter s)
read_of (Prefix p s) = Some (run.Prefix p s)
read_of (Len s) = Some (run.Len s)
read_of (IsEmpty s) = Some (run.IsEmpty s)
read_of (FirstKeyValue s) = Some (run.FirstKeyValue s)
read_of (LastKeyValue s) = Some (run.LastKeyValue s)
read_of (CountOf what) = Some (run.Count what)
read_of IsCompacting = Some run.IsCompacting
read_of TreeType = Some run.TreeType
read_of x = None

-- it answers as in `run`, and changes nothing
abbrev pub TakesRead : {S : Type 0} → Strategies → Option Step → Reply → SeenLogged S → SeenLogged S → Type 0
TakesRead strategies (Some x) reply old new = (new ≡ old) × ((events : List Event) × TakesInRun strategies x reply events old.core old.core)
TakesRead strategies None reply old new = ⊥

-- so it answers what the replay of the calls before it does, outside dropped ranges; and where its snapshot is kept only memory may be
-- missing
abbrev pub AnswersRead : List Entry → Map → List Event → Option Step → Reply → Type 0
AnswersRead opened start journal (Some x) reply = StepAnswers opened start journal x reply
AnswersRead opened start journal None reply = Unit {0}
