-- Faults that are planned for calls to come.
use Rattle.std.specs.Prelude.{◌≡◌, ◌≢◌, ℕ, ◌+◌, ◌≤◌, ◌==◌, Bool, true, false, nat_lt, if◌then◌else◌, Result, Ok, Err}
use Rattle.lsm_store.specs.declared.store.StoreError.{StoreError}
use Rattle.lsm_store.specs.declared.store.StoreError.TheVariants.{OutOfMemory, Fault as Failed, NothingDone as Refused}
use Rattle.lsm_store.specs.declared.mem_store.plan.Fault.{Fault}
use Rattle.lsm_store.specs.declared.mem_store.plan.Fault.TheVariants.{Once, OnceDone, OnceNothing, FromHere}
use Rattle.lsm_store.specs.declared.mem_store.plan.Outcome.{Outcome}
use Rattle.lsm_store.specs.declared.mem_store.plan.Outcome.TheVariants.{Done, Fails, FailsDone, NothingDone}
use Rattle.lsm_store.specs.declared.mem_store.plan.Plan.{Plan}

-- what a fault makes of its call
abbrev pub here : Fault → Outcome
here Once = Fails
here OnceDone = FailsDone
here OnceNothing = NothingDone
here FromHere = Fails

-- and of each later one
abbrev pub behind : Fault → Outcome
behind Once = Done
behind OnceDone = Done
behind OnceNothing = Done
behind FromHere = Fails

-- what comes of the n-th call from now on, the next one being the first
abbrev pub outcome_at : Plan → ℕ → Outcome
outcome_at p n = if nat_lt n p.call then Done else if n == p.call then here p.fault else behind p.fault

-- does the call have its effect?
abbrev pub has_effect : Outcome → Bool
has_effect Done = true
has_effect Fails = false
has_effect FailsDone = true
has_effect NothingDone = false

-- does it fail?
abbrev pub fails : Outcome → Bool
fails Done = false
fails Fails = true
fails FailsDone = true
fails NothingDone = true

-- what a call with this outcome answers
abbrev pub answer_of : Outcome → Result (Unit {0}) StoreError
answer_of Done = Ok tt
answer_of Fails = Err Failed
answer_of FailsDone = Err Failed
answer_of NothingDone = Err Refused

-- the plan after one call more
abbrev pub MovesOn : Plan → Plan → Type 0
MovesOn old new = (n : ℕ) → 1 ≤ n → outcome_at new n ≡ outcome_at old (n + 1)

-- a call fails exactly where it is planned; where it is refused for memory, the plan stays
abbrev pub AsPlanned : {T : Type 0} → Outcome → Plan → Plan → Result T StoreError → Type 0
AsPlanned outcome old new (Ok _) = (outcome ≡ Done) × MovesOn old new
AsPlanned outcome old new (Err Failed) = (outcome ≢ Done) × (outcome ≢ NothingDone) × MovesOn old new
AsPlanned outcome old new (Err Refused) = (outcome ≡ NothingDone) × MovesOn old new
AsPlanned outcome old new (Err OutOfMemory) = new ≡ old
