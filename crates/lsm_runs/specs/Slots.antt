-- Jobs that wait in slots, beside the tree.
use Rattle.std.specs.Prelude.{◌≡◌, ℕ, ◌<◌, ◌≤◌, ◌⊎◌, List, [], ◌∷◌, ◌++◌, Option, Some, None, IfSome, option_map}
use Rattle.std.specs.List.{AllByRecursion}
use Rattle.std.specs.Ordering.{nat_cmp}
use Rattle.std.specs.BTreeMap.{BTreeMap, get}
use Rattle.lsm_flush.specs.Jobs.{SeenJob, SeenOpen}
use Rattle.lsm_compaction.specs.Merges.{SeenCompaction}
use Rattle.lsm_compaction.specs.OpenMerges.{SeenOpenMerge, SeenMerges, IsMergeOf, ended}
use Rattle.lsm_state.specs.Core.{Core}
use Rattle.lsm_state.specs.Flushes.{spent}
use Rattle.lsm_state.specs.Compactions.{Spends}
use Rattle.lsm_runs.specs.declared.slots.Job.{Job}
use Rattle.lsm_runs.specs.declared.slots.Job.TheVariants.{Begun, Merged, Written, Compaction, Compacted}

-- ---- jobs

-- the flush that a job in a place belongs to, if one waits there
abbrev pub flush_in : Option Job → Option SeenJob
flush_in None = None
flush_in (Some (Begun job)) = Some job
flush_in (Some (Merged job)) = Some job.job
flush_in (Some (Written job)) = Some job.job
flush_in (Some (Compaction job)) = None
flush_in (Some (Compacted job)) = None

-- the merge that it belongs to
abbrev pub merge_in : Option Job → Option SeenCompaction
merge_in None = None
merge_in (Some (Begun job)) = None
merge_in (Some (Merged job)) = None
merge_in (Some (Written job)) = None
merge_in (Some (Compaction job)) = Some job
merge_in (Some (Compacted job)) = Some job.job

-- ---- slots

-- a place that was never used is as one that is free again
abbrev pub waiting : Option (Option Job) → Option Job
waiting None = None
waiting (Some job) = job

-- the job that waits in a slot
abbrev pub job_in : BTreeMap ℕ (Option Job) → ℕ → Option Job
job_in slots n = waiting (get nat_cmp slots n)

-- in each slot the same waits
abbrev pub SameJobs : BTreeMap ℕ (Option Job) → BTreeMap ℕ (Option Job) → Type 0
SameJobs old new = (n : ℕ) → job_in new n ≡ job_in old n

-- ---- a tree beside its slots

-- a tree, and the job that waits in each slot, none where it is free
pub record Stage : Type 0 where
  pub core : Core
  pub jobs : ℕ → Option Job

-- a tree beside free slots
abbrev pub at_first : Core → Stage
at_first c = record { core = c; jobs = λ n. None }

-- a tree beside these slots
abbrev pub beside : Core → BTreeMap ℕ (Option Job) → Stage
beside c slots = record { core = c; jobs = job_in slots }

-- ---- which flush is open

-- the number of the flush whose job waits
abbrev pub number_in : Option Job → Option ℕ
number_in place = option_map (λ (job : SeenJob). job.number) (flush_in place)

-- a job of this flush waits in some slot
abbrev pub WaitsFor : SeenOpen → (ℕ → Option Job) → Type 0
WaitsFor flush jobs = (n : ℕ) × (number_in (jobs n) ≡ Some flush.number)

-- the flush that was open at the start is so still, and no slot has a job of it; or none was open then, and a job of the
-- open one waits
abbrev pub KeepsOpen : Option SeenOpen → Stage → Type 0
KeepsOpen start s = ((s.core.flush ≡ start) × IfSome start (λ f. WaitsFor f s.jobs → ⊥)) ⊎ ((start ≡ None) × ((f : SeenOpen) × (s.core.flush ≡ Some f) × WaitsFor f s.jobs))

-- ---- which merges are open

-- the job of this merge waits in some slot
abbrev pub HasJob : SeenOpenMerge → (ℕ → Option Job) → Type 0
HasJob m jobs = (n : ℕ) × (job : SeenCompaction) × (merge_in (jobs n) ≡ Some job) × IsMergeOf job m

-- the merges that were open at the start are so still, and after them stand those whose jobs wait, which have later numbers
pub record KeepsMerges (start : SeenMerges) (s : Stage) : Type 0 where
  pub own : List SeenOpenMerge
  pub underway : s.core.merges.underway ≡ start.underway ++ own
  pub wait : AllByRecursion (λ m. HasJob m s.jobs) own
  pub later : (n : ℕ) (job : SeenCompaction) → merge_in (s.jobs n) ≡ Some job → start.next ≤ job.number
  pub first : AllByRecursion (λ m. m.number < start.next) start.underway
  pub below : AllByRecursion (λ m. m.number < s.core.merges.next) s.core.merges.underway
  pub next : start.next ≤ s.core.merges.next

-- ---- the end of a run

-- the job in a slot is given up
abbrev pub GivesUp : Option Job → Core → Core → Type 0
GivesUp None old new = new ≡ old
GivesUp (Some (Begun job)) old new = new ≡ spent job.number old
GivesUp (Some (Merged job)) old new = new ≡ spent job.job.number old
GivesUp (Some (Written job)) old new = new ≡ spent job.job.number old
GivesUp (Some (Compaction job)) old new = Spends job old new
GivesUp (Some (Compacted job)) old new = Spends job.job old new

-- the jobs in these slots are given up, one after the other
abbrev pub GivesUpAll : List (ℕ × Option Job) → Core → Core → Type 0
GivesUpAll [] old new = new ≡ old
GivesUpAll (x ∷ xs) old new = (mid : Core) × GivesUp x.1 old mid × GivesUpAll xs mid new

-- the open merges without those of these numbers
abbrev pub all_ended : List ℕ → SeenMerges → SeenMerges
all_ended [] ms = ms
all_ended (n ∷ numbers) ms = all_ended numbers (ended n ms)

-- a flush and merges may be open no longer, and nothing else changes
pub record Closes (old new : Core) : Type 0 where
  pub rest : new ≡ record old { flush = new.flush; merges = new.merges }
  pub flush : (new.flush ≡ old.flush) ⊎ (new.flush ≡ None)
  pub numbers : List ℕ
  pub merges : new.merges ≡ all_ended numbers old.merges
