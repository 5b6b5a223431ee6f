-- What each step of a run does, as its call says it.
use Rattle.std.specs.Prelude.{◌≡◌, ◌⊎◌, ℕ, List, Option, Some, None, Result, Ok, Err}
use Rattle.lsm_below.specs.Keys.{Bytes}
use Rattle.lsm_below.specs.declared.error.Error.{Error}
use Rattle.lsm_store.specs.World.{World}
use Rattle.lsm_model.specs.declared.op.Op.{Op}
use Rattle.lsm_model.specs.Steps.{Action}
use Rattle.lsm_logged.specs.Jobs.{SeenWritten}
use Rattle.lsm_logged.specs.Merges.{SeenCompacted}
use Rattle.lsm_runs.specs.declared.slots.Job.{Job}
use Rattle.lsm_runs.specs.declared.slots.Job.TheVariants.{Written, Compacted as CompactedJob}
use Rattle.lsm_runs.specs.declared.steps.JobStep.{JobStep}
use Rattle.lsm_runs.specs.declared.steps.JobStep.TheVariants.{RegisterTables, BeginCompaction, FinishCompaction}
use Rattle.lsm_runs.specs.declared.steps.Reply.{Reply}
use Rattle.lsm_runs.specs.declared.steps.Reply.TheVariants.{Number, Sealed, Flushed, FlushedActive, RefusedActive, Cleared, Registered, NoStrategy, NoJob, SlotInUse, Refused}
use Rattle.lsm_runs.specs.Compacting.{Strategies, reply_of, end_reply_of}
use Rattle.lsm_runs.specs.Files.{StaysStored}
use Rattle.lsm_pick.specs.declared.choice.Choice.{Choice}
use Rattle.lsm_state.specs.Compactions.{Relation}
use Rattle.lsm_state.specs.Dropping.{MayDropIds}
use Rattle.lsm_state.specs.declared.compaction.Begun.{Begun}
use Rattle.lsm_state.specs.declared.compaction.Finished.{Finished}
use Rattle.lsm_logged.specs.Acting.{ActsNot, FlushesAct, RotatesAct, ClearsAct, IsCompaction, IsMerging, DropsWithin, CompactsBy, RegistersAct, MergesAct}
use Rattle.lsm_logged.specs.Keeping.{SeenLogged}
use Rattle.lsm_logged.specs.Writing.{WritesAct}
use Rattle.lsm_log_runs.specs.declared.steps.LogStep.{LogStep}
use Rattle.lsm_log_runs.specs.declared.steps.LogStep.TheVariants.{Write, RotateMemtable, AtSlot, Flush, FlushActiveMemtable, Compact, MajorCompact, DropRange, Clear, GetNextTableId, SetMoment}
use Rattle.lsm_log_runs.specs.Runs.{TakesRotate, Takes}
use Rattle.lsm_log_runs.specs.Slots.{LogStage}

-- ---- as the theory sees it

abbrev pub ActsBatch : {S : Type 0} → List (Bytes × Op) → Reply → World → World → SeenLogged S → SeenLogged S → Type 0
ActsBatch ops (Number n) w w' old new = WritesAct ops (Ok n) w w' old new
ActsBatch ops (Refused x) w w' old new = WritesAct ops (Err x) w w' old new
ActsBatch ops reply w w' old new = ⊥

abbrev pub ActsFlush : {S : Type 0} → ℕ → Reply → World → World → SeenLogged S → SeenLogged S → Type 0
ActsFlush watermark (Flushed a) w w' old new = FlushesAct watermark (Ok a) w w' old new
ActsFlush watermark (Refused x) w w' old new = FlushesAct watermark (Err x) w w' old new
ActsFlush watermark reply w w' old new = ⊥

abbrev pub ActsClear : {S : Type 0} → Reply → World → World → SeenLogged S → SeenLogged S → Type 0
ActsClear (Cleared n) w w' old new = ClearsAct (Ok n) w w' old new
ActsClear (Refused x) w w' old new = ClearsAct (Err x) w w' old new
ActsClear reply w w' old new = ⊥

-- a rotation, where one comes about
abbrev pub ActsRotate : {S : Type 0} → Reply → World → SeenLogged S → SeenLogged S → Type 0
ActsRotate (Sealed id) w old new = RotatesAct (Ok id) w old new
ActsRotate reply w old new = Unit {0}

-- a rotation, and then a flush, or the rotation is refused
pub record ActsBehind {S : Type 0} (watermark : ℕ) (id : Option ℕ) (reply : Reply) (w w' : World) (old new : SeenLogged S) : Type 0 where
  pub mid : SeenLogged S
  pub rotates : TakesRotate (Sealed id) old mid
  pub sealed : ActsRotate (Sealed id) w old mid
  pub flushes : ActsFlush watermark reply w w' mid new

abbrev pub ActsFlushActive : {S : Type 0} → ℕ → Reply → World → World → SeenLogged S → SeenLogged S → Type 0
ActsFlushActive watermark (FlushedActive id a) w w' old new = ActsBehind watermark id (Flushed a) w w' old new
ActsFlushActive watermark (RefusedActive id x) w w' old new = ((id ≡ None) × TakesRotate (Refused x) old new) ⊎ ActsBehind watermark id (Refused x) w w' old new
ActsFlushActive watermark reply w w' old new = ⊥

-- a compaction that does actions that may be
abbrev pub ActsCompaction : {S : Type 0} → (Action → Type 0) → ℕ → Reply → World → World → SeenLogged S → SeenLogged S → Type 0
ActsCompaction May watermark reply w w' old new = (begun : Result Begun Error) × (reply ≡ reply_of begun) × CompactsBy May watermark begun w w' old new

-- one by a strategy of this relation, where there is one of that index, and the slot for its job is free
abbrev pub ActsCompact : {S : Type 0} → Relation Choice → ℕ → Reply → World → World → SeenLogged S → SeenLogged S → Type 0
ActsCompact may watermark NoStrategy w w' old new = new ≡ old
ActsCompact may watermark SlotInUse w w' old new = new ≡ old
ActsCompact may watermark reply w w' old new = ActsCompaction (IsCompaction (MayDropIds may old.core) watermark) watermark reply w w' old new

-- ---- calls on the job in a slot, as the theory sees them

abbrev pub ActsNothing : {S : Type 0} → World → World → SeenLogged S → SeenLogged S → Type 0
ActsNothing w w' old new = (new ≡ old) ⊎ ActsNot w w' old new

-- the job whose tables are written is registered, if one waits
abbrev pub ActsRegister : {S : Type 0} → Reply → Option Job → World → World → SeenLogged S → SeenLogged S → Type 0
ActsRegister (Registered a) was w w' old new = (job : SeenWritten) × (was ≡ Some (Written job)) × RegistersAct job (Ok a) w w' old new
ActsRegister (Refused x) was w w' old new = (job : SeenWritten) × (was ≡ Some (Written job)) × RegistersAct job (Err x) w w' old new
ActsRegister reply was w w' old new = new ≡ old

-- the merge that was done ends, if one waits
abbrev pub ActsMerge : {S : Type 0} → Reply → Option Job → World → World → SeenLogged S → SeenLogged S → Type 0
ActsMerge NoJob was w w' old new = new ≡ old
ActsMerge reply was w w' old new = (job : SeenCompacted) × (was ≡ Some (CompactedJob job)) × ((end : Result Finished Error) × (reply ≡ end_reply_of end) × MergesAct job.job end w w' old new)

-- with what waits in the slot before
abbrev pub ActsJob : {S : Type 0} → Strategies → JobStep → Reply → Option Job → World → World → SeenLogged S → SeenLogged S → Type 0
ActsJob strategies RegisterTables reply was w w' old new = ActsRegister reply was w w' old new
ActsJob strategies (BeginCompaction at o) reply was w w' old new = ActsCompact (strategies.may_choose at) o.mvcc_gc_watermark reply w w' old new
ActsJob strategies FinishCompaction reply was w w' old new = ActsMerge reply was w w' old new
ActsJob strategies step reply was w w' old new = ActsNothing w w' old new

-- ---- by steps

-- a read is nothing
abbrev pub ActsAlone : {S : Type 0} → Strategies → LogStep → Reply → World → World → SeenLogged S → SeenLogged S → Type 0
ActsAlone strategies (Write ops) reply w w' old new = ActsBatch ops reply w w' old new
ActsAlone strategies (Flush watermark) reply w w' old new = ActsFlush watermark reply w w' old new
ActsAlone strategies Clear reply w w' old new = ActsClear reply w w' old new
ActsAlone strategies RotateMemtable reply w w' old new = ActsRotate reply w old new
ActsAlone strategies (FlushActiveMemtable watermark) reply w w' old new = ActsFlushActive watermark reply w w' old new
ActsAlone strategies (Compact at watermark) reply w w' old new = ActsCompact (strategies.may_choose at) watermark reply w w' old new
ActsAlone strategies (MajorCompact target watermark) reply w w' old new = ActsCompaction (IsMerging watermark) watermark reply w w' old new
ActsAlone strategies (DropRange low high) reply w w' old new = ActsCompaction (DropsWithin (record { start = low; end = high }) old.core) 0 reply w w' old new
ActsAlone strategies GetNextTableId reply w w' old new = ActsNot w w' old new
ActsAlone strategies (SetMoment n) reply w w' old new = ActsNot w w' old new
ActsAlone strategies (AtSlot slot step) reply w w' old new = ⊥
ActsAlone strategies step reply w w' old new = new ≡ old

abbrev pub Acts : {S : Type 0} → Strategies → LogStep → Reply → World → World → LogStage S → LogStage S → Type 0
Acts strategies (AtSlot slot step) reply w w' old new = ActsJob strategies step reply (old.jobs slot) w w' old.tree new.tree
Acts strategies step reply w w' old new = ActsAlone strategies step reply w w' old.tree new.tree

-- ---- all of it

-- what a step answers and does; and where the store tells its content: its acts, and that the tree's files stay stored
pub record StepDoes {S : Type 0} (strategies : Strategies) (tells : Type 0) (world : S → World) (step : LogStep) (reply : Reply) (old new : LogStage S) : Type 0 where
  pub takes : Takes strategies step reply old new
  pub acts : tells → Acts strategies step reply (world old.tree.store) (world new.tree.store) old new
  pub stored : tells → StaysStored (world old.tree.store) (world new.tree.store) old.tree.core new.tree.core
