-- Outcomes of flushes.
use Rattle.std.proofs.Common.{◌≡◌, ℕ, List, Option, Some, None, Result, Ok, Err}
use Rattle.lsm_below.specs.declared.error.Error.{Error}
use Rattle.lsm_model.specs.Journal.{Event}
use Rattle.lsm_flush.specs.Jobs.{SeenWritten}
use Rattle.lsm_flush.specs.declared.jobs.Registered.{Registered}
use Rattle.lsm_state.specs.Core.{Core}
use Rattle.lsm_journal.specs.NotedFlushes.{RegistersNoted, FlushesActiveNoted}
use Rattle.lsm_runs.specs.declared.slots.Job.{Job}
use Rattle.lsm_runs.specs.declared.slots.Job.TheVariants.{Written}
use Rattle.lsm_runs.specs.Flushing.{TakesRegister, TakesFlushActive, told_registered, told_active}

-- a job that was registered
pub registered_taken : (job : SeenWritten) (r : Result Registered Error) (events : List Event) (was is : Option Job) (old new : Core)
    → was ≡ Some (Written job) → is ≡ None → RegistersNoted job r events old new → TakesRegister (told_registered events r).reply (told_registered events r).entries was is old new
registered_taken job (Ok a) events was is old new waits free n = (job, waits, free, n.told, n.registers, n.deeds, n.lost)
registered_taken job (Err x) events was is old new waits free n = (job, waits, free, n.told, n.registers, n.deeds, n.lost)

-- a flush of the active memtable
pub active_taken : (w : ℕ) (r : Result (Option ℕ × Option (ℕ × Registered)) (Error × Option ℕ)) (events : List Event) (old new : Core) → FlushesActiveNoted w r events old new → TakesFlushActive w (told_active events r).reply (told_active events r).entries old new
active_taken w (Ok a) events old new f = f.ok
active_taken w (Err e) events old new f = f.err
