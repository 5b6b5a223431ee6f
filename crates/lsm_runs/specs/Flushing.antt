-- What a step of a flush may answer, add to the journal and do.
use Rattle.std.specs.Prelude.{◌≡◌, ◌⊎◌, ℕ, true, List, [], Option, Some, None, IsSome, is_some, option_map, Result, Ok, Err, IfOk, IsErrOf}
use Rattle.lsm_below.specs.declared.error.Error.{Error}
use Rattle.lsm_below.specs.declared.error.Error.TheVariants.{OutOfMemory, CommitUnknown}
use Rattle.lsm_model.specs.Journal.{Event}
use Rattle.lsm_flush.specs.Jobs.{SeenJob, SeenMerged, SeenWritten, IsMergedFrom}
use Rattle.lsm_flush.specs.declared.jobs.Registered.{Registered as Outcome}
use Rattle.lsm_state.specs.Core.{Core}
use Rattle.lsm_state.specs.Deeds.{IsNoDeed}
use Rattle.lsm_state.specs.Flushes.{Begins, WritesTables, Registers, IsFlushDeed, IsLostFlush, spent}
use Rattle.lsm_state.specs.WholeFlushes.{RefusesRotation}
use Rattle.lsm_state.specs.FlushReads.{register_events}
use Rattle.lsm_journal.specs.NotedFlushes.{FlushesNoted, FlushesRotated}
use Rattle.lsm_runs.specs.declared.slots.Job.{Job}
use Rattle.lsm_runs.specs.declared.slots.Job.TheVariants.{Begun as BegunJob, Merged, Written}
use Rattle.lsm_runs.specs.declared.steps.Reply.{Reply}
use Rattle.lsm_runs.specs.declared.steps.Reply.TheVariants.{Begun, Done, Registered, Flushed, FlushedActive, RefusedActive, NoJob, SlotInUse, Refused}
use Rattle.lsm_runs.specs.Slots.{flush_in}
use Rattle.lsm_runs.specs.Told.{Told}

-- ---- a call on the job in a slot: what waits there before it and after it, and the tree before it and after it

-- nothing is done
abbrev pub IsIdle : List Event → Option Job → Option Job → Core → Core → Type 0
IsIdle events was is old new = (events ≡ []) × (is ≡ was) × (new ≡ old)

-- no job that was begun, merged or written waits there
abbrev pub HasNoBegun : Option Job → Type 0
HasNoBegun (Some (BegunJob job)) = ⊥
HasNoBegun job = Unit {0}

abbrev pub HasNoMerged : Option Job → Type 0
HasNoMerged (Some (Merged job)) = ⊥
HasNoMerged job = Unit {0}

abbrev pub HasNoWritten : Option Job → Type 0
HasNoWritten (Some (Written job)) = ⊥
HasNoWritten job = Unit {0}

-- a flush is begun into a free slot; none where nothing is sealed
abbrev pub TakesBegin : Reply → List Event → Option Job → Option Job → Core → Core → Type 0
TakesBegin (Begun b) events was is old new = (events ≡ []) × (was ≡ None) × ((job : Option SeenJob) × (is ≡ option_map BegunJob job) × (b ≡ is_some job) × Begins (Ok job) old new) × IsNoDeed old new
TakesBegin (Refused x) events was is old new = IsIdle events was is old new × (was ≡ None) × Begins (Err x) old new
TakesBegin SlotInUse events was is old new = IsIdle events was is old new × IsSome was
TakesBegin reply events was is old new = ⊥

-- a job that was begun is merged at a watermark
abbrev pub TakesRun : ℕ → Reply → List Event → Option Job → Option Job → Core → Core → Type 0
TakesRun w Done events was is old new = (events ≡ []) × (new ≡ old) × ((job : SeenMerged) × (was ≡ Some (BegunJob job.job)) × (is ≡ Some (Merged job)) × (job.watermark ≡ w) × IsMergedFrom job.job w job.entries)
TakesRun w (Refused x) events was is old new = IsIdle events was is old new × (x ≡ OutOfMemory) × ((job : SeenJob) × (was ≡ Some (BegunJob job)))
TakesRun w NoJob events was is old new = IsIdle events was is old new × HasNoBegun was
TakesRun w reply events was is old new = ⊥

-- the tables of a job that was merged are written; refused, ids may be used
abbrev pub TakesTables : Reply → List Event → Option Job → Option Job → Core → Core → Type 0
TakesTables Done events was is old new = (events ≡ []) × ((job : SeenMerged) × (made : SeenWritten) × (was ≡ Some (Merged job)) × (is ≡ Some (Written made)) × WritesTables job (Ok made) old new) × IsNoDeed old new
TakesTables (Refused x) events was is old new = (events ≡ []) × ((job : SeenMerged) × (was ≡ Some (Merged job)) × (is ≡ was) × WritesTables job (Err (x, job)) old new) × IsNoDeed old new
TakesTables NoJob events was is old new = IsIdle events was is old new × HasNoMerged was
TakesTables reply events was is old new = ⊥

-- a job whose tables are written is registered: its slot is free whatever is answered
abbrev pub RegistersFrom : Result Outcome Error → List Event → Option Job → Option Job → Core → Core → Type 0
RegistersFrom r events was is old new = (job : SeenWritten) × (was ≡ Some (Written job)) × (is ≡ None) × (events ≡ register_events job.watermark old.seqno r) × Registers job r old new × IfOk r (λ a. a.installed ≡ true → IsFlushDeed job old new) × (IsErrOf r CommitUnknown → IsLostFlush job old new)

abbrev pub TakesRegister : Reply → List Event → Option Job → Option Job → Core → Core → Type 0
TakesRegister (Registered a) events was is old new = RegistersFrom (Ok a) events was is old new
TakesRegister (Refused x) events was is old new = RegistersFrom (Err x) events was is old new
TakesRegister NoJob events was is old new = IsIdle events was is old new × HasNoWritten was
TakesRegister reply events was is old new = ⊥

-- the job of a flush is given up, at whatever stage it is
abbrev pub TakesAbandon : Reply → List Event → Option Job → Option Job → Core → Core → Type 0
TakesAbandon Done events was is old new = (events ≡ []) × ((job : SeenJob) × (flush_in was ≡ Some job) × (is ≡ None) × (new ≡ spent job.number old)) × IsNoDeed old new
TakesAbandon NoJob events was is old new = IsIdle events was is old new × (flush_in was ≡ None)
TakesAbandon reply events was is old new = ⊥

-- ---- a flush in one call

abbrev pub TakesFlush : ℕ → Reply → List Event → Core → Core → Type 0
TakesFlush w (Flushed a) events old new = FlushesNoted w (Ok a) events old new
TakesFlush w (Refused x) events old new = FlushesNoted w (Err x) events old new
TakesFlush w reply events old new = ⊥

-- a flush of the active memtable, whose answer and refusal name the memtable that was sealed
abbrev pub TakesFlushActive : ℕ → Reply → List Event → Core → Core → Type 0
TakesFlushActive w (FlushedActive id a) events old new = FlushesRotated w id (Ok a) events old new
TakesFlushActive w (RefusedActive id x) events old new = ((events ≡ []) × RefusesRotation id x old new) ⊎ FlushesRotated w id (Err x) events old new
TakesFlushActive w reply events old new = ⊥

-- the moment at which tables are made is set
abbrev pub TakesMoment : ℕ → Reply → List Event → Core → Core → Type 0
TakesMoment n Done events old new = (events ≡ []) × (new ≡ record old { moment = n }) × IsNoDeed old new
TakesMoment n reply events old new = ⊥

-- ---- outcomes

-- the outcome of a job that was registered
abbrev pub told_registered : List Event → Result Outcome Error → Told
told_registered events (Ok a) = record { reply = Registered a; entries = events }
told_registered events (Err x) = record { reply = Refused x; entries = events }

-- the outcome of a flush
abbrev pub told_flush : List Event → Result (Option (ℕ × Outcome)) Error → Told
told_flush events (Ok a) = record { reply = Flushed a; entries = events }
told_flush events (Err x) = record { reply = Refused x; entries = events }

-- that of one of the active memtable
abbrev pub told_active : List Event → Result (Option ℕ × Option (ℕ × Outcome)) (Error × Option ℕ) → Told
told_active events (Ok a) = record { reply = FlushedActive a.0 a.1; entries = events }
told_active events (Err e) = record { reply = RefusedActive e.1 e.0; entries = events }
