-- What a compaction tells a journal of the calls, and what it leaves of reads.
use Rattle.std.specs.Prelude.{◌≡◌, ◌⊎◌, ℕ, List, [], ◌∷◌, ◌++◌, Result, Ok, IfOk, IfErr, IsErrOf}
use Rattle.lsm_below.specs.Entries.{Entry}
use Rattle.lsm_below.specs.declared.error.Error.{Error}
use Rattle.lsm_below.specs.declared.error.Error.TheVariants.{CommitUnknown, AfterCommit}
use Rattle.lsm_model.specs.Journal.{Event, Map, InOrder}
use Rattle.std.specs.List.{AllByRecursion}
use Rattle.lsm_model.specs.Steps.{StaysAt, IsSparedBy}
use Rattle.lsm_model.specs.Sound.{Holds}
use Rattle.lsm_model.specs.declared.journal.JournalEntry.TheVariants.{Mark, Install}
use Rattle.lsm_compaction.specs.Merges.{SeenCompaction}
use Rattle.lsm_pick.specs.declared.choice.Choice.{Choice}
use Rattle.lsm_pick.specs.declared.choice.Choice.TheVariants.{DoNothing, Move, Merge, Drop}
use Rattle.lsm_state.specs.declared.compaction.Begun.{Begun}
use Rattle.lsm_state.specs.declared.compaction.Begun.TheVariants.{Installed}
use Rattle.lsm_state.specs.declared.compaction.Finished.{Finished}
use Rattle.lsm_state.specs.declared.compaction.Finished.TheVariants.{Installed as Ended}
use Rattle.lsm_state.specs.Core.{Core, state_of}
use Rattle.lsm_state.specs.CompactionDeeds.{dropped_by, ChoiceDeeds, IsMarkedIn, MergeDeeds}

-- ---- what is told

-- a drop tells the ranges of its tables
abbrev pub ranges_told : Choice → Core → List Event
ranges_told DoNothing c = []
ranges_told (Move input) c = []
ranges_told (Merge input) c = []
ranges_told (Drop ids) c = dropped_by ids.keys c

-- of a choice: the mark, what a drop tells, and the install where it is installed
pub record TellsChoice (choice : Choice) (w : ℕ) (r : Result Begun Error) (old : Core) (events : List Event) : Type 0 where
  pub done : (r ≡ Ok Installed) ⊎ IsErrOf r AfterCommit → events ≡ Mark w ∷ (ranges_told choice old ++ Install old.seqno ∷ [])
  pub lost : IsErrOf r CommitUnknown → events ≡ Mark w ∷ ranges_told choice old
  pub told : IfOk r (λ b. (b ≡ Installed → ⊥) → events ≡ Mark w ∷ [])
  pub refused : IfErr r (λ e. (e ≡ AfterCommit → ⊥) → (e ≡ CommitUnknown → ⊥) → events ≡ Mark w ∷ [])

-- of the end of a merge: the install, where it is installed
pub record TellsMerge (r : Result Finished Error) (old : Core) (events : List Event) : Type 0 where
  pub done : (r ≡ Ok Ended) ⊎ IsErrOf r AfterCommit → events ≡ Install old.seqno ∷ []
  pub lost : IsErrOf r CommitUnknown → events ≡ []
  pub told : IfOk r (λ f. (f ≡ Ended → ⊥) → events ≡ [])
  pub refused : IfErr r (λ e. (e ≡ AfterCommit → ⊥) → (e ≡ CommitUnknown → ⊥) → events ≡ [])

-- ---- what is left of reads

-- after these events, told after such a journal, reads are right where they were, and what these snapshots see stays, where
-- they find a super version before and after
pub record SparesReads (IsBefore : List Event → Type 0) (events : List Event) (IsSpared : ℕ → Type 0) (old new : Core) : Type 0 where
  pub right : (opened : List Entry) (start : Map) (journal : List Event) → IsBefore journal → InOrder opened (journal ++ events) → Holds opened start (state_of journal old) → Holds opened start (state_of (journal ++ events) new)
  pub stays : (opened : List Entry) (start : Map) (journal : List Event) → IsBefore journal → InOrder opened (journal ++ events) → Holds opened start (state_of journal old) → (s : ℕ) → IsSpared s → StaysAt s (state_of [] old) (state_of [] new)

-- any journal
abbrev pub IsAny : List Event → Type 0
IsAny journal = Unit {0}

-- the snapshots that all these events spare
abbrev pub AreSparedBy : List Event → ℕ → Type 0
AreSparedBy events s = AllByRecursion (IsSparedBy s) events

abbrev pub IsAnySnapshot : ℕ → Type 0
IsAnySnapshot s = Unit {0}

-- each call of a compaction does so; the end of a merge where its watermark was marked
pub record CompactionsKeepReads : Type 0 where
  pub choices : (choice : Choice) (w : ℕ) (r : Result Begun Error) (old new : Core) (events : List Event) → ChoiceDeeds choice w r old new → TellsChoice choice w r old events → SparesReads IsAny events (AreSparedBy events) old new
  pub merges : (job : SeenCompaction) (r : Result Finished Error) (old new : Core) (events : List Event) → MergeDeeds job r old new → TellsMerge r old events → SparesReads (IsMarkedIn job.settings.watermark) events IsAnySnapshot old new
