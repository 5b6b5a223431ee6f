-- What a call on the job in a slot may answer and do.
use Rattle.std.specs.Prelude.{◌≡◌, ℕ, ◌<◌, ◌≤◌, [], Option, Some, None, IsSome, is_some, option_map, Result, Ok, Err}
use Rattle.lsm_below.specs.declared.error.Error.{Error}
use Rattle.lsm_logged.specs.Jobs.{SeenJob, SeenMerged, SeenWritten}
use Rattle.lsm_logged.specs.Registered.{Registered as Registry}
use Rattle.lsm_logged.specs.Merges.{SeenCompaction, SeenCompacted}
use Rattle.lsm_runs.specs.declared.slots.Job.{Job}
use Rattle.lsm_runs.specs.declared.slots.Job.TheVariants.{Begun as BegunJob, Merged, Written, Compacted as CompactedJob}
use Rattle.lsm_runs.specs.declared.steps.JobStep.{JobStep}
use Rattle.lsm_runs.specs.declared.steps.JobStep.TheVariants.{BeginFlush, RunFlush, FlushToTables, RegisterTables, AbandonFlush, BeginCompaction, RunCompaction, FinishCompaction, AbandonCompaction}
use Rattle.lsm_runs.specs.declared.steps.Reply.{Reply}
use Rattle.lsm_runs.specs.declared.steps.Reply.TheVariants.{Begun, Done, Registered, NoStrategy, NoJob, SlotInUse, Refused}
use Rattle.lsm_runs.specs.Compacting.{Strategies, reply_of, job_of, end_reply_of, HasNoCompacted, TakesRunCompaction}
use Rattle.lsm_runs.specs.Flushing.{HasNoMerged, HasNoWritten, TakesRun}
use Rattle.lsm_runs.specs.Slots.{flush_in, merge_in}
use Rattle.lsm_state.specs.Compactions.{BeginsCompaction, Spends}
use Rattle.lsm_state.specs.Flushes.{spent}
use Rattle.lsm_state.specs.declared.compaction.Begun.{Begun as HowBegun}
use Rattle.lsm_state.specs.declared.compaction.Finished.{Finished}
use Rattle.lsm_state.specs.declared.compaction.Options.{Options}
use Rattle.lsm_logged.specs.Asking.{Asks, FinishesLogged}
use Rattle.lsm_logged.specs.Flushing.{BeginsLogged, WritesJobLogged, RegistersLogged}
use Rattle.lsm_logged.specs.Keeping.{SeenLogged}
use Rattle.lsm_log_runs.specs.Slots.{LogStage, StaysBeside}

-- nothing is done
abbrev pub IsIdle : {S : Type 0} → Option Job → Option Job → SeenLogged S → SeenLogged S → Type 0
IsIdle was is old new = (is ≡ was) × (new ≡ old)

-- ---- flushes

-- one is begun into a free slot; none where nothing is sealed
abbrev pub TakesBegin : {S : Type 0} → Reply → Option Job → Option Job → SeenLogged S → SeenLogged S → Type 0
TakesBegin (Begun b) was is old new = (was ≡ None) × ((job : Option SeenJob) × (is ≡ option_map BegunJob job) × (b ≡ is_some job) × BeginsLogged (Ok job) old new)
TakesBegin (Refused x) was is old new = (is ≡ was) × (was ≡ None) × BeginsLogged (Err x) old new
TakesBegin SlotInUse was is old new = IsIdle was is old new × IsSome was
TakesBegin reply was is old new = ⊥

-- the tables of a job that was merged are written; refused, the job stays
abbrev pub TakesTables : {S : Type 0} → Reply → Option Job → Option Job → SeenLogged S → SeenLogged S → Type 0
TakesTables Done was is old new = (job : SeenMerged) × (made : SeenWritten) × (was ≡ Some (Merged job)) × (is ≡ Some (Written made)) × WritesJobLogged job (Ok made) old new
TakesTables (Refused x) was is old new = (job : SeenMerged) × (was ≡ Some (Merged job)) × (is ≡ was) × WritesJobLogged job (Err (x, job)) old new
TakesTables NoJob was is old new = IsIdle was is old new × HasNoMerged was
TakesTables reply was is old new = ⊥

-- a job whose tables are written is registered: its slot is free whatever is answered
abbrev pub RegistersFrom : {S : Type 0} → Result Registry Error → Option Job → Option Job → SeenLogged S → SeenLogged S → Type 0
RegistersFrom r was is old new = (job : SeenWritten) × (was ≡ Some (Written job)) × (is ≡ None) × RegistersLogged job r old new

abbrev pub TakesRegister : {S : Type 0} → Reply → Option Job → Option Job → SeenLogged S → SeenLogged S → Type 0
TakesRegister (Registered a) was is old new = RegistersFrom (Ok a) was is old new
TakesRegister (Refused x) was is old new = RegistersFrom (Err x) was is old new
TakesRegister NoJob was is old new = IsIdle was is old new × HasNoWritten was
TakesRegister reply was is old new = ⊥

-- the job of a flush is given up, at whatever stage it is
abbrev pub TakesAbandon : {S : Type 0} → Reply → Option Job → Option Job → SeenLogged S → SeenLogged S → Type 0
TakesAbandon Done was is old new = (job : SeenJob) × (flush_in was ≡ Some job) × (is ≡ None) × (new.core ≡ spent job.number old.core) × StaysBeside old new
TakesAbandon NoJob was is old new = IsIdle was is old new × (flush_in was ≡ None)
TakesAbandon reply was is old new = ⊥

-- ---- compactions

-- what the strategy at an index chooses is begun into a free slot, where the job of a merge waits then
pub record BeginsFrom {S : Type 0} (strategies : Strategies) (at : ℕ) (o : Options) (reply : Reply) (was is : Option Job) (old new : SeenLogged S) : Type 0 where
  pub there : at < strategies.count
  pub free : was ≡ None
  pub begun : Result HowBegun Error
  pub begins : Asks begun old new (BeginsCompaction (strategies.may_choose at) (strategies.may_refuse at) o begun old.core new.core)
  pub waits : is ≡ job_of begun
  pub told : reply ≡ reply_of begun

abbrev pub TakesBeginCompaction : {S : Type 0} → Strategies → ℕ → Options → Reply → Option Job → Option Job → SeenLogged S → SeenLogged S → Type 0
TakesBeginCompaction strategies at o SlotInUse was is old new = IsIdle was is old new × IsSome was
TakesBeginCompaction strategies at o NoStrategy was is old new = IsIdle was is old new × (was ≡ None) × (strategies.count ≤ at)
TakesBeginCompaction strategies at o reply was is old new = BeginsFrom strategies at o reply was is old new

-- a merge that was done ends: its slot is free whatever is answered
pub record EndsFrom {S : Type 0} (reply : Reply) (was is : Option Job) (old new : SeenLogged S) : Type 0 where
  pub job : SeenCompacted
  pub waited : was ≡ Some (CompactedJob job)
  pub free : is ≡ None
  pub end : Result Finished Error
  pub ends : FinishesLogged job.job end old new
  pub told : reply ≡ end_reply_of end

abbrev pub TakesFinish : {S : Type 0} → Reply → Option Job → Option Job → SeenLogged S → SeenLogged S → Type 0
TakesFinish NoJob was is old new = IsIdle was is old new × HasNoCompacted was
TakesFinish reply was is old new = EndsFrom reply was is old new

-- the job of a merge is given up, whether it was done or not
abbrev pub TakesAbandonCompaction : {S : Type 0} → Reply → Option Job → Option Job → SeenLogged S → SeenLogged S → Type 0
TakesAbandonCompaction Done was is old new = (job : SeenCompaction) × (merge_in was ≡ Some job) × (is ≡ None) × Spends job old.core new.core × StaysBeside old new
TakesAbandonCompaction NoJob was is old new = IsIdle was is old new × (merge_in was ≡ None)
TakesAbandonCompaction reply was is old new = ⊥

-- ---- by calls

-- what waits in the slot before it and after it, and the tree before it and after it
abbrev pub TakesJob : {S : Type 0} → Strategies → JobStep → Reply → Option Job → Option Job → SeenLogged S → SeenLogged S → Type 0
TakesJob strategies BeginFlush reply was is old new = TakesBegin reply was is old new
TakesJob strategies (RunFlush w) reply was is old new = TakesRun w reply [] was is old.core new.core × (new ≡ old)
TakesJob strategies FlushToTables reply was is old new = TakesTables reply was is old new
TakesJob strategies RegisterTables reply was is old new = TakesRegister reply was is old new
TakesJob strategies AbandonFlush reply was is old new = TakesAbandon reply was is old new
TakesJob strategies (BeginCompaction at o) reply was is old new = TakesBeginCompaction strategies at o reply was is old new
TakesJob strategies RunCompaction reply was is old new = TakesRunCompaction reply [] was is old.core new.core × (new ≡ old)
TakesJob strategies FinishCompaction reply was is old new = TakesFinish reply was is old new
TakesJob strategies AbandonCompaction reply was is old new = TakesAbandonCompaction reply was is old new

-- on the job in a slot, and all other slots stay
abbrev pub TakesInSlot : {S : Type 0} → Strategies → ℕ → JobStep → Reply → LogStage S → LogStage S → Type 0
TakesInSlot strategies slot step reply old new = TakesJob strategies step reply (old.jobs slot) (new.jobs slot) old.tree new.tree × ((n : ℕ) → (n ≡ slot → ⊥) → new.jobs n ≡ old.jobs n)
