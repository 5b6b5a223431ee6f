-- A flush in one call: begun, merged, written and registered.
use Rattle.std.specs.Prelude.{◌≡◌, ◌⊎◌, ℕ, ◌+◌, ◌-◌, ◌^◌, ◌<◌, ◌≤◌, Bool, true, false, List, [], length, flat_map, sum_by, Option, None, IsSome, IfSome, Result, Ok, Err, IfOk, IfErr, OnErr, IsErrOf, ◌↔◌}
use Rattle.lsm_below.specs.Entries.{Entry}
use Rattle.lsm_below.specs.Sums.{capped}
use Rattle.lsm_below.specs.declared.error.Error.{Error}
use Rattle.lsm_below.specs.declared.error.Error.TheVariants.{OutOfMemory, Store, CommitUnknown, Unrecoverable, OutOfNumbers, FlushOpen, TooManyRuns}
use Rattle.lsm_commit.specs.Writing.{HoldEntries}
use Rattle.lsm_versions.specs.Refusals.{IsRefusedFor}
use Rattle.lsm_flush.specs.Jobs.{SeenJob, SeenWritten, IsMergedFrom, IsWrittenFrom}
use Rattle.lsm_flush.specs.declared.jobs.Registered.{Registered}
use Rattle.lsm_parts.specs.Held.{size_at}
use Rattle.lsm_state.specs.Core.{Core}
use Rattle.lsm_state.specs.Calls.{Rotates}
use Rattle.lsm_state.specs.Flushes.{sealed_ids, job_in, with_next_table, wrote, spent, Installs, Doubts, IsFlushDeed, IsLostFlush}

-- ---- words

-- the bytes that the sealed memtables count, up to 2^64 - 1
abbrev pub sealed_bytes : Core → ℕ
sealed_bytes c = capped (sum_by (size_at c.memtables) c.history.latest.sealed_memtables)

-- the next number of a job is used, and ids of tables up to this one
abbrev pub drawn_until : ℕ → Core → Core
drawn_until next c = record c { next_job = c.next_job + 1; next_table = next }

-- the job of all sealed memtables, at this watermark, with its tables: made at the tree's moment, under the next ids
pub record IsWhole (w : ℕ) (job : SeenWritten) (old new : Core) : Type 0 where
  pub of_sealed : job.job ≡ job_in old
  pub watermark : job.watermark ≡ w
  pub written : IsWrittenFrom job.job w job.tables
  pub held : HoldEntries old.moment (flat_map (λ t. t.entries) job.tables) old.next_table new.next_table job.tables

-- ids of tables are used, no more than entries are kept of a job
abbrev pub DrawsFew : ℕ → SeenJob → ℕ → ℕ → Type 0
DrawsFew w job old new = (new ≡ old) ⊎ ((kept : List Entry) × IsMergedFrom job w kept × (new ≤ old + length kept))

-- ---- a flush

-- an installed flush: the size and the outcome that it answers, and the tree after it
pub record InstallsWhole (w size : ℕ) (a : Registered) (old new : Core) : Type 0 where
  pub installed : a.installed ≡ true
  pub bytes : size ≡ sealed_bytes old
  pub job : SeenWritten
  pub whole : IsWhole w job old new
  pub installs : Installs job a.cleaned (drawn_until new.next_table old) new
  -- as the theories see it
  pub deeds : IsFlushDeed job old new

-- a flush of unknown outcome
pub record DoubtsWhole (w : ℕ) (old new : Core) : Type 0 where
  pub job : SeenWritten
  pub whole : IsWhole w job old new
  pub doubts : Doubts job (drawn_until new.next_table old) new
  -- as the theories see it
  pub deeds : IsLostFlush job old new

-- the first level takes no further run
pub record IsFullFor (w : ℕ) (old new : Core) : Type 0 where
  pub job : SeenWritten
  pub whole : IsWhole w job old new
  pub full : IsRefusedFor [] job.tables 0 old.history.latest.version TooManyRuns

-- what a refused flush leaves: the number of a job, ids of tables and the number of a commit may be used, and the version
-- of a commit of unknown outcome may be kept
pub record LeavesRest (old new : Core) : Type 0 where
  pub rest : new ≡ record old { next_job = new.next_job; next_table = new.next_table; seqno = new.seqno; lost = new.lost }
  pub next_job : (new.next_job ≡ old.next_job) ⊎ (new.next_job ≡ old.next_job + 1)
  pub next_table : old.next_table ≤ new.next_table
  pub seqno : (new.seqno ≡ old.seqno) ⊎ (new.seqno ≡ old.seqno + 1)

-- what a flush answers and does
pub record Flushes (w : ℕ) (r : Result (Option (ℕ × Registered)) Error) (old new : Core) : Type 0 where
  -- none exactly where nothing is sealed
  pub none : sealed_ids old ≡ [] → r ≡ Ok None
  pub some : IfOk r (λ a. a ≡ None → (sealed_ids old ≡ []) × (new ≡ old))
  pub installs : IfOk r (λ a. IfSome a (λ p. InstallsWhole w p.0 p.1 old new))
  pub draws : DrawsFew w (job_in old) old.next_table new.next_table
  -- refused, nothing else changes, and a version is kept only after a commit of unknown outcome
  pub err : OnErr r (LeavesRest old new)
  pub unknown : IsErrOf r CommitUnknown → DoubtsWhole w old new
  pub known : IfErr r (λ e. (e ≡ CommitUnknown → ⊥) → new.lost ≡ old.lost)
  -- refusals: after a commit of unknown outcome, then while a flush is open, each before anything is done
  pub unrecoverable : IsErrOf r Unrecoverable ↔ ((sealed_ids old ≡ [] → ⊥) × IsSome old.lost)
  pub flush_open : IsErrOf r FlushOpen ↔ ((sealed_ids old ≡ [] → ⊥) × ((old.lost ≡ None) × IsSome old.flush))
  pub before : IsErrOf r Unrecoverable ⊎ IsErrOf r FlushOpen → new ≡ old
  -- where there is no number of a job, of a table, of a commit or of a version, or no room for a run
  pub out_of_numbers : IsErrOf r OutOfNumbers → ((2 ^ 63 ≤ old.next_job) ⊎ (2 ^ 63 ≤ new.next_table)) ⊎ ((2 ^ 63 ≤ old.seqno) ⊎ (old.history.latest.version.id ≡ 2 ^ 64 - 1))
  pub too_many_runs : IsErrOf r TooManyRuns → IsFullFor w old new
  -- a counter without a number is told before
  pub numbered : IsErrOf r TooManyRuns → old.seqno < 2 ^ 63
  pub only : IfErr r (λ e. ((e ≡ OutOfMemory) ⊎ ((e ≡ Store) ⊎ (e ≡ CommitUnknown))) ⊎ (((e ≡ Unrecoverable) ⊎ (e ≡ FlushOpen)) ⊎ ((e ≡ OutOfNumbers) ⊎ (e ≡ TooManyRuns))))

-- did a flush come to register a job, whose tables were written? Where it did its watermark counts, also where it is refused
pub record MarksFlush (w : ℕ) (marked : Bool) (r : Result (Option (ℕ × Registered)) Error) (old new : Core) : Type 0 where
  pub written : marked ≡ true → (job : SeenWritten) × IsWhole w job old new
  pub ok : IfOk r (λ a. IsSome a ↔ (marked ≡ true))
  pub registered : IsErrOf r CommitUnknown ⊎ IsErrOf r TooManyRuns → marked ≡ true
  pub before : IsErrOf r Unrecoverable ⊎ IsErrOf r FlushOpen → marked ≡ false

-- ---- a flush after a rotation

-- a rotation, and then a flush that is refused
pub record RefusesBehind (w : ℕ) (id : Option ℕ) (e : Error) (old new : Core) : Type 0 where
  pub mid : Core
  pub rotates : Rotates old id mid
  pub flushes : Flushes w (Err e) mid new

-- a refused rotation: nothing is sealed, and nothing changes
pub record RefusesRotation (id : Option ℕ) (e : Error) (old new : Core) : Type 0 where
  pub none : id ≡ None
  pub unchanged : new ≡ old
  pub only : (e ≡ OutOfMemory) ⊎ (e ≡ OutOfNumbers)
  pub out_of_numbers : e ≡ OutOfNumbers → 2 ^ 63 ≤ old.next_memtable

-- a rotation, and then a flush that is answered
pub record FlushesBehind (w : ℕ) (id : Option ℕ) (a : Option (ℕ × Registered)) (old new : Core) : Type 0 where
  pub mid : Core
  pub rotates : Rotates old id mid
  pub flushes : Flushes w (Ok a) mid new

-- what a flush of the active memtable answers and does: the answer and the refusal name the memtable that is sealed
pub record FlushesActive (w : ℕ) (r : Result (Option ℕ × Option (ℕ × Registered)) (Error × Option ℕ)) (old new : Core) : Type 0 where
  pub ok : IfOk r (λ a. FlushesBehind w a.0 a.1 old new)
  pub err : IfErr r (λ e. RefusesRotation e.1 e.0 old new ⊎ RefusesBehind w e.1 e.0 old new)

-- what it answers: the memtable that was sealed, beside the answer of the flush or its refusal
abbrev pub answer_behind : Option ℕ → Result (Option (ℕ × Registered)) Error → Result (Option ℕ × Option (ℕ × Registered)) (Error × Option ℕ)
answer_behind id (Ok a) = Ok (id, a)
answer_behind id (Err e) = Err (e, id)

-- ---- its part in the middle

-- what merging a job and writing its tables answers and does; refused, the job is given up
pub record WritesJob (w : ℕ) (job : SeenJob) (r : Result SeenWritten Error) (old new : Core) : Type 0 where
  pub of_job : IfOk r (λ x. (x.job ≡ job) × (x.watermark ≡ w))
  pub written : IfOk r (λ x. IsWrittenFrom job w x.tables)
  pub held : IfOk r (λ x. HoldEntries old.moment (flat_map (λ t. t.entries) x.tables) old.next_table new.next_table x.tables)
  pub ok : IfOk r (λ x. new ≡ wrote job.number x.tables new.next_table old)
  pub err : OnErr r (new ≡ spent job.number (with_next_table new.next_table old))
  pub rises : old.next_table ≤ new.next_table
  pub draws : DrawsFew w job old.next_table new.next_table
  pub unrecoverable : IsErrOf r Unrecoverable → IsSome old.lost
  pub out_of_numbers : IsErrOf r OutOfNumbers → 2 ^ 63 ≤ new.next_table
  pub only : IfErr r (λ e. ((e ≡ OutOfMemory) ⊎ (e ≡ Store)) ⊎ ((e ≡ Unrecoverable) ⊎ (e ≡ OutOfNumbers)))
