-- What a flush tells a journal of the calls, and what it leaves of reads.
use Rattle.std.specs.Prelude.{◌≡◌, ℕ, Bool, true, false, List, [], ◌∷◌, ◌++◌, Option, Result, Ok, Err, IfOk, if◌then◌else◌}
use Rattle.lsm_below.specs.Entries.{Entry}
use Rattle.lsm_below.specs.declared.error.Error.{Error}
use Rattle.lsm_model.specs.Journal.{Event, Map, InOrder}
use Rattle.lsm_model.specs.Steps.{StaysAt}
use Rattle.lsm_model.specs.Sound.{Holds}
use Rattle.lsm_model.specs.declared.journal.JournalEntry.TheVariants.{Mark, Install}
use Rattle.lsm_flush.specs.Jobs.{SeenWritten}
use Rattle.lsm_flush.specs.declared.jobs.Registered.{Registered}
use Rattle.lsm_state.specs.Core.{Core, state_of}
use Rattle.lsm_state.specs.Deeds.{IsNoDeed}
use Rattle.lsm_state.specs.Flushes.{Registers, IsFlushDeed}
use Rattle.lsm_state.specs.WholeFlushes.{Flushes, MarksFlush}

-- ---- what is told

-- of a job that is registered: the mark, and the install where it is installed, under this sequence number
abbrev pub register_events : ℕ → ℕ → Result Registered Error → List Event
register_events w n (Ok a) = if a.installed then Mark w ∷ (Install n ∷ []) else Mark w ∷ []
register_events w n (Err e) = Mark w ∷ []

-- of a flush in one call, which may not have come to register a job
abbrev pub flush_events : ℕ → ℕ → Bool → Result (Option (ℕ × Registered)) Error → List Event
flush_events w n false r = []
flush_events w n true (Ok a) = Mark w ∷ (Install n ∷ [])
flush_events w n true (Err e) = Mark w ∷ []

-- ---- what is left of reads

-- after these events reads are right where they were, and what each snapshot sees stays, where it finds a super version
-- before and after
pub record KeepsReads (events : List Event) (old new : Core) : Type 0 where
  pub right : (opened : List Entry) (start : Map) (journal : List Event) → InOrder opened (journal ++ events) → Holds opened start (state_of journal old) → Holds opened start (state_of (journal ++ events) new)
  pub stays : (opened : List Entry) (start : Map) (journal : List Event) → InOrder opened (journal ++ events) → Holds opened start (state_of journal old) → (s : ℕ) → StaysAt s (state_of [] old) (state_of [] new)

-- each call of a flush does so
pub record FlushesKeepReads : Type 0 where
  -- one that is nothing to the theories
  pub silent : (old new : Core) → IsNoDeed old new → KeepsReads [] old new
  -- registering a job, whatever it answers
  pub registers : (job : SeenWritten) (r : Result Registered Error) (old new : Core) → Registers job r old new → IfOk r (λ a. a.installed ≡ true → IsFlushDeed job old new) → KeepsReads (register_events job.watermark old.seqno r) old new
  -- a flush in one call, whatever it answers
  pub flushes : (w : ℕ) (marked : Bool) (r : Result (Option (ℕ × Registered)) Error) (old new : Core) → Flushes w r old new → MarksFlush w marked r old new → KeepsReads (flush_events w old.seqno marked r) old new
