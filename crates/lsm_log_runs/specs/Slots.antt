-- A logged tree beside the slots in which jobs wait.
use Rattle.std.specs.Prelude.{◌≡◌, ◌↔◌, ℕ, List, Option, Some, None, Contains}
use Rattle.std.specs.BTreeMap.{BTreeMap}
use Rattle.lsm_logged.specs.Keeping.{SeenLogged}
use Rattle.lsm_runs.specs.declared.slots.Job.{Job}
use Rattle.lsm_runs.specs.Slots.{job_in, GivesUpAll, Closes}

-- a logged tree, and the job that waits in each slot, none where it is free
pub record LogStage (S : Type 0) : Type 0 where
  pub tree : SeenLogged S
  pub jobs : ℕ → Option Job

-- beside free slots
abbrev pub at_first : {S : Type 0} → SeenLogged S → LogStage S
at_first t = record { tree = t; jobs = λ n. None }

-- beside these slots
abbrev pub beside : {S : Type 0} → SeenLogged S → BTreeMap ℕ (Option Job) → LogStage S
beside t slots = record { tree = t; jobs = job_in slots }

-- the store, the numbers of the records and whether one has unknown outcome stay
pub record StaysBeside {S : Type 0} (old new : SeenLogged S) : Type 0 where
  pub store : new.store ≡ old.store
  pub numbers : new.numbers ≡ old.numbers
  pub doubt : new.doubted ≡ old.doubted

-- these are the jobs that wait
abbrev pub AreAllThatWait : (ℕ → Option Job) → List (ℕ × Option Job) → Type 0
AreAllThatWait jobs places = (n : ℕ) (job : Job) → (jobs n ≡ Some job) ↔ Contains places (n, Some job)

-- each job that waits is given up, and no other, one after the other; the log stays
pub record EndsLogged {S : Type 0} (last : LogStage S) (new : SeenLogged S) : Type 0 where
  pub places : List (ℕ × Option Job)
  pub all : AreAllThatWait last.jobs places
  pub given_up : GivesUpAll places last.tree.core new.core
  pub rest : StaysBeside last.tree new

-- a flush and merges may be open no longer, and nothing else changes
pub record ClosesLogged {S : Type 0} (old new : SeenLogged S) : Type 0 where
  pub core : Closes old.core new.core
  pub rest : StaysBeside old new
