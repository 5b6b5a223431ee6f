-- Flushes, and what they add to a journal.
use Rattle.std.specs.Prelude.{◌≡◌, ◌⊎◌, ℕ, Bool, true, List, [], Option, Result, Ok, Err, IfOk, IfErr, IsErrOf}
use Rattle.lsm_below.specs.declared.error.Error.{Error}
use Rattle.lsm_below.specs.declared.error.Error.TheVariants.{CommitUnknown}
use Rattle.lsm_model.specs.Journal.{Event}
use Rattle.lsm_flush.specs.Jobs.{SeenWritten}
use Rattle.lsm_flush.specs.declared.jobs.Registered.{Registered}
use Rattle.lsm_state.specs.Core.{Core}
use Rattle.lsm_state.specs.Calls.{Rotates}
use Rattle.lsm_state.specs.Flushes.{Registers, IsFlushDeed, IsLostFlush}
use Rattle.lsm_state.specs.FlushReads.{register_events, flush_events}
use Rattle.lsm_state.specs.WholeFlushes.{Flushes, MarksFlush, RefusesRotation}

-- a job is registered, whatever it is answered: it tells its mark, and the install where it is installed
pub record RegistersNoted (job : SeenWritten) (r : Result Registered Error) (events : List Event) (old new : Core) : Type 0 where
  pub registers : Registers job r old new
  pub told : events ≡ register_events job.watermark old.seqno r
  -- as the theories see it
  pub deeds : IfOk r (λ a. a.installed ≡ true → IsFlushDeed job old new)
  pub lost : IsErrOf r CommitUnknown → IsLostFlush job old new

-- a flush in one call, whatever it answers: its watermark counts where it came to register a job
abbrev pub FlushesNoted : ℕ → Result (Option (ℕ × Registered)) Error → List Event → Core → Core → Type 0
FlushesNoted w r events old new = (marked : Bool) × (events ≡ flush_events w old.seqno marked r) × Flushes w r old new × MarksFlush w marked r old new

-- a rotation, and then a flush
abbrev pub FlushesRotated : ℕ → Option ℕ → Result (Option (ℕ × Registered)) Error → List Event → Core → Core → Type 0
FlushesRotated w id r events old new = (mid : Core) × Rotates old id mid × FlushesNoted w r events mid new

-- a flush of the active memtable; where its rotation is refused, nothing is told
pub record FlushesActiveNoted (w : ℕ) (r : Result (Option ℕ × Option (ℕ × Registered)) (Error × Option ℕ)) (events : List Event) (old new : Core) : Type 0 where
  pub ok : IfOk r (λ a. FlushesRotated w a.0 (Ok a.1) events old new)
  pub err : IfErr r (λ e. ((events ≡ []) × RefusesRotation e.1 e.0 old new) ⊎ FlushesRotated w e.1 (Err e.0) events old new)
