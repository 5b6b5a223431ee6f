-- Which batches may be tried, and why one is refused.
use Rattle.std.specs.Prelude.{◌≡◌, ◌⊎◌, ℕ, ◌≤◌, Bool, false, List, Some}
use Rattle.lsm_below.specs.Keys.{Bytes}
use Rattle.lsm_below.specs.Entries.{Entry}
use Rattle.lsm_below.specs.declared.error.Error.TheVariants.{OutOfMemory, Unrecoverable}
use Rattle.lsm_commit.specs.Causes.{BlamesStore}
use Rattle.lsm_model.specs.Journal.{Event, sets_of}
use Rattle.lsm_model.specs.declared.op.Op.{Op}
use Rattle.lsm_model.specs.declared.op.Op.TheVariants.{Weak}
use Rattle.lsm_runs.specs.declared.steps.Reply.{Reply}
use Rattle.lsm_runs.specs.declared.steps.Reply.TheVariants.{Refused}
use Rattle.lsm_state.specs.Refusals.{batch_refusal}
use Rattle.lsm_log_runs.specs.declared.steps.LogStep.{LogStep}
use Rattle.lsm_log_runs.specs.declared.steps.LogStep.TheVariants.{Write}

-- a key that is removed weakly was set once at most so far, the values that were opened included
abbrev pub IsOverOne : List Entry → List Event → Bytes × Op → Type 0
IsOverOne opened journal p = p.1 ≡ Weak → sets_of p.0 opened journal ≤ 1

-- A batch is refused, where the counter stands at this number, for its own fault, for want of memory, because a call of the store failed, or
-- since some outcome before it is unknown.
abbrev pub HasReason : (counter : ℕ) (known : Bool) → LogStep → Reply → Type 0
HasReason counter known (Write ops) (Refused e) = (batch_refusal counter ops ≡ Some e) ⊎ ((e ≡ OutOfMemory) ⊎ (BlamesStore e ⊎ ((e ≡ Unrecoverable) × (known ≡ false))))
HasReason counter known step reply = Unit {0}
