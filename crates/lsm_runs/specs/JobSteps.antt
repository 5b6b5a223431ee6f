-- What a call on the job in a slot may answer, add to the journal and do.
use Rattle.std.specs.Prelude.{◌≡◌, ℕ, List, Option}
use Rattle.lsm_model.specs.Journal.{Event}
use Rattle.lsm_state.specs.Core.{Core}
use Rattle.lsm_runs.specs.declared.slots.Job.{Job}
use Rattle.lsm_runs.specs.declared.steps.JobStep.{JobStep}
use Rattle.lsm_runs.specs.declared.steps.JobStep.TheVariants.{BeginFlush, RunFlush, FlushToTables, RegisterTables, AbandonFlush, BeginCompaction, RunCompaction, FinishCompaction, AbandonCompaction}
use Rattle.lsm_runs.specs.declared.steps.Reply.{Reply}
use Rattle.lsm_runs.specs.Slots.{Stage}
use Rattle.lsm_runs.specs.Flushing.{TakesBegin, TakesRun, TakesTables, TakesRegister, TakesAbandon}
use Rattle.lsm_runs.specs.Compacting.{Strategies, TakesBeginCompaction, TakesRunCompaction, TakesFinish, TakesAbandonCompaction}

-- each of these calls: what waits in the slot before it and after it, and the tree before it and after it
abbrev pub TakesJob : Strategies → JobStep → Reply → List Event → Option Job → Option Job → Core → Core → Type 0
TakesJob strategies BeginFlush reply events was is old new = TakesBegin reply events was is old new
TakesJob strategies (RunFlush w) reply events was is old new = TakesRun w reply events was is old new
TakesJob strategies FlushToTables reply events was is old new = TakesTables reply events was is old new
TakesJob strategies RegisterTables reply events was is old new = TakesRegister reply events was is old new
TakesJob strategies AbandonFlush reply events was is old new = TakesAbandon reply events was is old new
TakesJob strategies (BeginCompaction at o) reply events was is old new = TakesBeginCompaction strategies at o reply events was is old new
TakesJob strategies RunCompaction reply events was is old new = TakesRunCompaction reply events was is old new
TakesJob strategies FinishCompaction reply events was is old new = TakesFinish reply events was is old new
TakesJob strategies AbandonCompaction reply events was is old new = TakesAbandonCompaction reply events was is old new

-- a call on the job in a slot, that leaves all other slots
abbrev pub TakesInSlot : Strategies → ℕ → JobStep → Reply → List Event → Stage → Stage → Type 0
TakesInSlot strategies slot step reply events old new = TakesJob strategies step reply events (old.jobs slot) (new.jobs slot) old.core new.core × ((n : ℕ) → (n ≡ slot → ⊥) → new.jobs n ≡ old.jobs n)
