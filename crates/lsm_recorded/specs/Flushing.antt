-- What the calls of a flush add to a journal.
use Rattle.std.specs.Prelude.{◌≡◌, ◌⊎◌, ℕ, Bool, List, Option, Result, Ok, Err, IfOk, IfErr}
use Rattle.lsm_below.specs.declared.error.Error.{Error}
use Rattle.lsm_below.specs.declared.error.Error.TheVariants.{OutOfMemory}
use Rattle.lsm_model.specs.declared.journal.JournalEntry.{JournalEntry}
use Rattle.lsm_flush.specs.Jobs.{SeenWritten}
use Rattle.lsm_flush.specs.declared.jobs.Registered.{Registered}
use Rattle.lsm_state.specs.Calls.{Rotates}
use Rattle.lsm_state.specs.Core.{Core}
use Rattle.lsm_state.specs.FlushReads.{register_events, flush_events}
use Rattle.lsm_state.specs.Flushes.{Registers, spent}
use Rattle.lsm_state.specs.WholeFlushes.{Flushes, MarksFlush, RefusesRotation}
use Rattle.lsm_recorded.specs.Passes.{Notes}
use Rattle.lsm_recorded.specs.Recorded.{SeenRecorded}

-- ---- a job

-- a job that there is no room to note: it is spent, and nothing else changes
pub record SpendsUnnoted {S A : Type 0} (IsSpent : Core → Core → Type 0) (r : Result A Error) (old new : SeenRecorded S) (pass pass' : List (ℕ × JournalEntry)) : Type 0 where
  pub refused : r ≡ Err OutOfMemory
  pub core : IsSpent old.tree.core new.tree.core
  pub store : new.tree.store ≡ old.tree.store
  pub journal_stays : new.journal ≡ old.journal
  pub pass_stays : pass' ≡ pass

abbrev pub IsSpentFlush : SeenWritten → Core → Core → Type 0
IsSpentFlush job old new = new ≡ spent job.job.number old

-- a job that is registered, whatever it is answered: the mark is noted, and the install where it is installed
pub record RegistersNoted {S : Type 0} (job : SeenWritten) (r : Result Registered Error) (old new : SeenRecorded S) (pass pass' : List (ℕ × JournalEntry)) : Type 0 where
  pub registers : Registers job r old.tree.core new.tree.core
  pub noted : Notes (register_events job.watermark old.tree.core.seqno r) old.journal new.journal pass pass'

-- ---- a flush in one call

-- a call that there is no room to note: nothing changes
pub record RefusesUnnoted {S A : Type 0} (r : Result A Error) (old new : SeenRecorded S) (pass pass' : List (ℕ × JournalEntry)) : Type 0 where
  pub refused : r ≡ Err OutOfMemory
  pub unchanged : new ≡ old
  pub pass_stays : pass' ≡ pass

-- a flush, whatever it answers: what it came to is noted
pub record FlushesNoted (w : ℕ) (r : Result (Option (ℕ × Registered)) Error) (old new : Core) (journal journal' : List JournalEntry) (pass pass' : List (ℕ × JournalEntry)) : Type 0 where
  pub flushes : Flushes w r old new
  -- did it come to register a job?
  pub marked : Bool
  pub marks : MarksFlush w marked r old new
  pub noted : Notes (flush_events w old.seqno marked r) journal journal' pass pass'

-- ---- a flush after a rotation

-- a rotation, and then a flush that is noted
pub record NotesBehind (w : ℕ) (id : Option ℕ) (r : Result (Option (ℕ × Registered)) Error) (old new : Core) (journal journal' : List JournalEntry) (pass pass' : List (ℕ × JournalEntry)) : Type 0 where
  pub mid : Core
  pub rotates : Rotates old id mid
  pub flushes : FlushesNoted w r mid new journal journal' pass pass'

-- a refused rotation, or no room for notes: nothing is noted
pub record NotesNothing (id : Option ℕ) (e : Error) (old new : Core) (journal journal' : List JournalEntry) (pass pass' : List (ℕ × JournalEntry)) : Type 0 where
  pub rotation : RefusesRotation id e old new
  pub journal_stays : journal' ≡ journal
  pub pass_stays : pass' ≡ pass

-- what a flush of the active memtable notes, by its answer
pub record NotesActive (w : ℕ) (r : Result (Option ℕ × Option (ℕ × Registered)) (Error × Option ℕ)) (old new : Core) (journal journal' : List JournalEntry) (pass pass' : List (ℕ × JournalEntry)) : Type 0 where
  pub ok : IfOk r (λ a. NotesBehind w a.0 (Ok a.1) old new journal journal' pass pass')
  pub err : IfErr r (λ e. NotesNothing e.1 e.0 old new journal journal' pass pass' ⊎ NotesBehind w e.1 (Err e.0) old new journal journal' pass pass')
