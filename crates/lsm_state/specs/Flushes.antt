-- The calls of a flush.
use Rattle.std.specs.Prelude.{◌≡◌, ◌⊎◌, ℕ, ◌+◌, ◌-◌, ◌^◌, ◌<◌, ◌≤◌, Bool, true, false, List, [], ◌∷◌, ◌++◌, map, take, drop, length, reverse, Option, Some, None, IsSome, IfSome, Result, Ok, IfOk, IfErr, OnErr, IsErrOf, ◌↔◌, if◌then◌else◌, ◌==◌}
use Rattle.lsm_below.specs.declared.error.Error.{Error}
use Rattle.lsm_below.specs.declared.error.Error.TheVariants.{OutOfMemory, Store, CommitUnknown, Unrecoverable, OutOfNumbers, FlushOpen, TooManyRuns}
use Rattle.lsm_model.specs.Views.{IsRearranged}
use Rattle.lsm_model.specs.Steps.{Action, Flushed, AllCover}
use Rattle.lsm_model.specs.Beginnings.{FlushedIds}
use Rattle.lsm_model.specs.declared.journal.JournalEntry.TheVariants.{Install}
use Rattle.lsm_tables.specs.Tables.{SeenTable}
use Rattle.std.specs.List.{AllByRecursion}
use Rattle.lsm_below.specs.Runs.{IsRun}
use Rattle.lsm_versions.specs.Levels.{range, placed_in, placed_of, IsNext, HasOwnIds, all_of}
use Rattle.lsm_versions.specs.Refusals.{IsRefusedFor}
use Rattle.lsm_commit.specs.Writing.{HoldEntries}
use Rattle.lsm_flush.specs.Jobs.{SeenJob, SeenMerged, SeenWritten, SeenOpen, passed_by}
use Rattle.lsm_flush.specs.declared.jobs.Registered.{Registered}
use Rattle.lsm_parts.specs.declared.version.super_version.SuperVersion.{SuperVersion}
use Rattle.lsm_parts.specs.Versions.{IsLaid}
use Rattle.lsm_parts.specs.Held.{entries_of}
use Rattle.lsm_state.specs.Core.{Core}
use Rattle.lsm_state.specs.Commits.{counted, committed, doubted}
use Rattle.lsm_state.specs.Cleaning.{Cleans}
use Rattle.lsm_state.specs.Deeds.{AreDone, AreLost}

-- ---- beginning

-- the memtables that are sealed and not flushed, from the newest
abbrev pub sealed_ids : Core → List ℕ
sealed_ids c = reverse c.history.latest.sealed_memtables

-- the job of all sealed memtables
abbrev pub job_in : Core → SeenJob
job_in c = record { number = c.next_job; ids = sealed_ids c; sources = map (entries_of c.memtables) (sealed_ids c) }

-- the tree with that flush open
abbrev pub begun : Core → Core
begun c = record c { next_job = c.next_job + 1; flush = Some (record { number = c.next_job; ids = sealed_ids c; written = [] }) }

-- what beginning a flush answers and does, in the order of its questions
pub record Begins (r : Result (Option SeenJob) Error) (old new : Core) : Type 0 where
  -- none exactly where nothing is sealed
  pub none : sealed_ids old ≡ [] → r ≡ Ok None
  pub some : IfOk r (λ j. j ≡ None → (sealed_ids old ≡ []) × (new ≡ old))
  pub begins : IfOk r (λ j. IfSome j (λ job. (job ≡ job_in old) × (new ≡ begun old)))
  pub err : OnErr r (new ≡ old)
  -- refusals: after a commit of unknown outcome, then while a flush is open, then where there is no number
  pub unrecoverable : IsErrOf r Unrecoverable ↔ ((sealed_ids old ≡ [] → ⊥) × IsSome old.lost)
  pub flush_open : IsErrOf r FlushOpen ↔ ((sealed_ids old ≡ [] → ⊥) × ((old.lost ≡ None) × IsSome old.flush))
  pub out_of_numbers : IsErrOf r OutOfNumbers → 2 ^ 63 ≤ old.next_job
  pub only : IfErr r (λ e. ((e ≡ OutOfMemory) ⊎ (e ≡ Unrecoverable)) ⊎ ((e ≡ FlushOpen) ⊎ (e ≡ OutOfNumbers)))

-- ---- writing tables

-- ids of tables are used
abbrev pub with_next_table : ℕ → Core → Core
with_next_table n c = record c { next_table = n }

-- the open flush with tables that are written for it, unless they are those of another job
abbrev pub noted_in : ℕ → List SeenTable → Option SeenOpen → Option SeenOpen
noted_in n tables None = None
noted_in n tables (Some f) = if f.number == n then Some (record f { written = tables }) else Some f

-- the tree after tables are written for a job
abbrev pub wrote : ℕ → List SeenTable → ℕ → Core → Core
wrote n tables next c = record c { next_table = next; flush = noted_in n tables c.flush }

-- what writing the tables of a job answers and does
pub record WritesTables (job : SeenMerged) (r : Result SeenWritten (Error × SeenMerged)) (old new : Core) : Type 0 where
  pub of_job : IfOk r (λ w. (w.job ≡ job.job) × (w.watermark ≡ job.watermark))
  pub tables : IfOk r (λ w. HoldEntries old.moment job.entries old.next_table new.next_table w.tables)
  pub ok : IfOk r (λ w. new ≡ wrote job.job.number w.tables new.next_table old)
  -- refused, the job comes back, and ids may be used
  pub back : IfErr r (λ e. e.1 ≡ job)
  pub err : OnErr r (new ≡ with_next_table new.next_table old)
  pub rises : old.next_table ≤ new.next_table
  -- no more ids than entries
  pub draws : new.next_table ≤ old.next_table + length job.entries
  pub unrecoverable : IfErr r (λ e. (e.0 ≡ Unrecoverable) ↔ IsSome old.lost)
  pub certain : IfOk r (λ w. old.lost ≡ None)
  pub out_of_numbers : IfErr r (λ e. e.0 ≡ OutOfNumbers → 2 ^ 63 ≤ new.next_table)
  pub only : IfErr r (λ e. ((e.0 ≡ OutOfMemory) ⊎ (e.0 ≡ Store)) ⊎ ((e.0 ≡ Unrecoverable) ⊎ (e.0 ≡ OutOfNumbers)))

-- ---- registering

-- a job with this number is no longer open
abbrev pub spent_in : ℕ → Option SeenOpen → Option SeenOpen
spent_in n None = None
spent_in n (Some f) = if f.number == n then None else Some f

abbrev pub spent : ℕ → Core → Core
spent n c = record c { flush = spent_in n c.flush }

-- the job is the open one, its tables are those that were written for it, its memtables are the first sealed ones, with
-- its entries
pub record IsCurrent (job : SeenWritten) (c : Core) : Type 0 where
  pub current : c.flush ≡ Some (record { number = job.job.number; ids = job.job.ids; written = job.tables })
  pub sealed : take (length job.job.ids) c.history.latest.sealed_memtables ≡ reverse job.job.ids
  pub entries : job.job.sources ≡ map (entries_of c.memtables) job.job.ids

-- the super version that a flush makes under a number: the job's memtables give way to a run of its tables, in front of
-- all others
pub record IsFlushedOf (job : SeenWritten) (number : ℕ) (latest next : SuperVersion) : Type 0 where
  pub seqno : next.seqno ≡ number
  pub active : next.active_memtable ≡ latest.active_memtable
  pub sealed : next.sealed_memtables ≡ drop (length job.job.ids) latest.sealed_memtables
  pub version : IsNext [] job.tables 0 (passed_by job.job.sources) latest.version next.version
  pub covers : AllCover (placed_in 0 job.tables)
  pub placed : IsRearranged (placed_in 0 job.tables ++ placed_of latest.version.levels) (placed_of next.version.levels)
  pub laid : IsLaid next.version
  pub own_ids : HasOwnIds (all_of next.version.levels)

abbrev pub IsFlushed : SeenWritten → Core → SuperVersion → Type 0
IsFlushed job c next = IsFlushedOf job c.seqno c.history.latest next

-- the tree after a flush is installed, and cleaned up after it to the end or not
pub record Installs (job : SeenWritten) (whole : Bool) (old new : Core) : Type 0 where
  pub next : SuperVersion
  pub flushed : IsFlushed job old next
  pub cleans : Cleans job.watermark whole (committed next old) new

-- the tree after a flush of unknown outcome
pub record Doubts (job : SeenWritten) (old new : Core) : Type 0 where
  pub next : SuperVersion
  pub flushed : IsFlushed job old next
  pub is : new ≡ doubted next old

-- what registering a flush answers and does; the job is spent whatever it answers
pub record Registers (job : SeenWritten) (r : Result Registered Error) (old new : Core) : Type 0 where
  pub installs : IfOk r (λ a. a.installed ≡ true → IsCurrent job old × Installs job a.cleaned (spent job.job.number old) new)
  pub stale : IfOk r (λ a. a.installed ≡ false → (IsCurrent job old → ⊥) × ((a.cleaned ≡ true) × (new ≡ spent job.job.number old)))
  pub unknown : IsErrOf r CommitUnknown → IsCurrent job old × Doubts job (spent job.job.number old) new
  -- after a commit of unknown outcome, and only there
  pub unrecoverable : IsErrOf r Unrecoverable ↔ IsSome old.lost
  -- refused otherwise, a number may be used
  pub before : IsErrOf r Unrecoverable ⊎ (IsErrOf r OutOfNumbers ⊎ IsErrOf r TooManyRuns) → new ≡ spent job.job.number old
  pub store : IsErrOf r Store → new ≡ counted (spent job.job.number old)
  pub memory : IsErrOf r OutOfMemory → (new ≡ spent job.job.number old) ⊎ (new ≡ counted (spent job.job.number old))
  pub out_of_numbers : IsErrOf r OutOfNumbers → (2 ^ 63 ≤ old.seqno) ⊎ (old.history.latest.version.id ≡ 2 ^ 64 - 1)
  pub too_many_runs : IsErrOf r TooManyRuns → IsRefusedFor [] job.tables 0 old.history.latest.version TooManyRuns
  -- a counter without a number is told before
  pub numbered : IsErrOf r TooManyRuns → old.seqno < 2 ^ 63
  pub only : IfErr r (λ e. ((e ≡ OutOfMemory) ⊎ ((e ≡ Store) ⊎ (e ≡ CommitUnknown))) ⊎ ((e ≡ Unrecoverable) ⊎ ((e ≡ OutOfNumbers) ⊎ (e ≡ TooManyRuns))))

-- ---- installing, where a job is known to be current

-- a job that is spent, and whose tables stand in no version yet
pub record MayInstall (job : SeenWritten) (c : Core) : Type 0 where
  pub certain : c.lost ≡ None
  pub closed : c.flush ≡ None
  pub run : IsRun range job.tables
  pub own_ids : HasOwnIds (job.tables ++ all_of c.history.latest.version.levels)
  pub below : c.next_table < 2 ^ 64 - 1 → AllByRecursion (λ t. t.id < c.next_table) job.tables

-- what installing it answers and does
pub record InstallsSpent (job : SeenWritten) (r : Result Registered Error) (old new : Core) : Type 0 where
  pub ok : IfOk r (λ a. (a.installed ≡ true) × Installs job a.cleaned old new)
  pub unknown : IsErrOf r CommitUnknown → Doubts job old new
  pub before : IsErrOf r OutOfNumbers ⊎ IsErrOf r TooManyRuns → new ≡ old
  pub store : IsErrOf r Store → new ≡ counted old
  pub memory : IsErrOf r OutOfMemory → (new ≡ old) ⊎ (new ≡ counted old)
  pub out_of_numbers : IsErrOf r OutOfNumbers → (2 ^ 63 ≤ old.seqno) ⊎ (old.history.latest.version.id ≡ 2 ^ 64 - 1)
  pub too_many_runs : IsErrOf r TooManyRuns → IsRefusedFor [] job.tables 0 old.history.latest.version TooManyRuns
  -- a counter without a number is told before
  pub numbered : IsErrOf r TooManyRuns → old.seqno < 2 ^ 63
  pub only : IfErr r (λ e. ((e ≡ OutOfMemory) ⊎ ((e ≡ Store) ⊎ (e ≡ CommitUnknown))) ⊎ ((e ≡ OutOfNumbers) ⊎ (e ≡ TooManyRuns)))

-- ---- as the theories see it

-- the action of the theory
abbrev pub flush_of : SeenWritten → Action
flush_of job = Flushed job.watermark job.job.ids (placed_in 0 job.tables)

-- the deeds of an installed flush, and of one of unknown outcome
abbrev pub IsFlushDeed : SeenWritten → Core → Core → Type 0
IsFlushDeed job old new = AreDone job.watermark (flush_of job) (Install old.seqno ∷ []) (FlushedIds job.job.ids ∷ []) old new

abbrev pub IsLostFlush : SeenWritten → Core → Core → Type 0
IsLostFlush job old new = (would : Core) × AreLost job.watermark (flush_of job) (Install old.seqno ∷ []) old would new
