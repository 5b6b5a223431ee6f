-- What stands after the calls so far: a logged tree of the theory beside the product's, whose records and files are in its store, and jobs in slots.
use Rattle.std.specs.Prelude.{◌≡◌, ◌⊎◌, ℕ, ◌<◌, ◌≤◌, ◌^◌, List, [], Option, Some, None}
use Rattle.std.specs.List.{AllByRecursion}
use Rattle.lsm_store.specs.World.{World}
use Rattle.lsm_commit.specs.Stored.{IsStored}
use Rattle.lsm_model.specs.Journal.{Event}
use Rattle.lsm_log_model.specs.Numbered.{AreBelow}
use Rattle.lsm_log_model.specs.Records.{LogImage, opened_by}
use Rattle.lsm_log_model.specs.Logs.{Logged as Log, MayBeDrawn, lost_of}
use Rattle.lsm_runs.specs.declared.slots.Job.{Job}
use Rattle.lsm_runs.specs.declared.slots.Job.TheVariants.{Begun, Merged, Written, Compaction, Compacted}
use Rattle.lsm_runs.specs.Files.{AreApart}
use Rattle.lsm_runs.specs.OpenFlushes.{BegunFlush}
use Rattle.lsm_runs.specs.Slots.{flush_in, merge_in}
use Rattle.lsm_state.specs.CompactionDeeds.{IsMarkedIn}
use Rattle.lsm_state.specs.Core.{versions_left, written_of}
use Rattle.lsm_logged.specs.Jobs.{SeenJob}
use Rattle.lsm_logged.specs.Keeping.{SeenLogged, IsLogOf, KeepsLog}
use Rattle.lsm_logged.specs.Merges.{SeenCompaction}
use Rattle.lsm_log_runs.specs.CameAbout.{LogCameAbout}
use Rattle.lsm_log_runs.specs.Pasts.{LogPast}
use Rattle.lsm_log_runs.specs.Slots.{LogStage}
use Rattle.lsm_log_runs.specs.Stages.{CalledStage}

-- what has unknown outcome was numbered below this
pub record IsUnder (n : ℕ) (log : Log) : Type 0 where
  pub lost : AllByRecursion (λ b. b.number < n) (lost_of log.lost)
  pub other : (log.tree.others ≡ []) ⊎ (log.other_from ≤ n)

-- it is this tree, its records are in the store, the counter is above them, and the store holds the tree's files; and all that was opened,
-- written and in doubt is numbered below 2^63
pub record StandsLogged {S : Type 0} (world : S → World) (image : LogImage) (past : LogPast) (t : SeenLogged S) : Type 0 where
  pub log : Log
  pub came : LogCameAbout image past log
  pub is : IsLogOf past.journal past.notes t.core t.doubted log
  pub keeps : KeepsLog (world t.store) log
  pub next : MayBeDrawn (opened_by image) log t.core.seqno
  pub under : IsUnder t.core.seqno log
  pub stored : IsStored (world t.store) (versions_left t.core) (written_of t.core)
  pub apart : AreApart (versions_left t.core)
  pub small : AreBelow (2 ^ 63) (opened_by image) past.journal past.lost

-- ---- jobs that wait

-- the watermark at which the flush of a place was merged
abbrev pub mark_in : Option Job → Option ℕ
mark_in None = None
mark_in (Some (Begun job)) = None
mark_in (Some (Merged job)) = Some job.watermark
mark_in (Some (Written job)) = Some job.watermark
mark_in (Some (Compaction job)) = None
mark_in (Some (Compacted job)) = None

-- the flush whose job waits in a place is of these memtables and was merged at this watermark, and the watermark of the merge whose job waits
-- there is marked
pub record WaitsAt (flush : BegunFlush) (journal : List Event) (place : Option Job) : Type 0 where
  pub begun : (job : SeenJob) → flush_in place ≡ Some job → job.ids ≡ flush.ids
  pub merged : (w : ℕ) → mark_in place ≡ Some w → w ≡ flush.watermark
  pub marked : (job : SeenCompaction) → merge_in place ≡ Some job → IsMarkedIn job.settings.watermark journal

abbrev pub AreWaiting : LogPast → (ℕ → Option Job) → Type 0
AreWaiting past jobs = (n : ℕ) → WaitsAt (past.begun n) past.journal (jobs n)

-- What stands at a stage, its open jobs included. An opening makes it, and each step; a run asks for it: whoever uses the theorem need not
-- unfold it.
pub record StandsWithJobs {S : Type 0} (world : S → World) (image : LogImage) (s : CalledStage (LogStage S)) : Type 0 where
  pub tree : StandsLogged world image s.past s.at.tree
  pub waits : AreWaiting s.past s.at.jobs
