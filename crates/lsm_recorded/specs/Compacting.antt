-- What the calls of a compaction add to a journal.
use Rattle.std.specs.Prelude.{◌≡◌, ◌⊎◌, ℕ, true, false, None, IsSome, List, Result, Ok}
use Rattle.lsm_below.specs.declared.error.Error.{Error}
use Rattle.lsm_model.specs.Journal.{Event}
use Rattle.lsm_model.specs.declared.journal.JournalEntry.{JournalEntry}
use Rattle.lsm_compaction.specs.Merges.{SeenCompaction}
use Rattle.lsm_pick.specs.declared.bounds.OwnedBounds.{OwnedBounds}
use Rattle.lsm_pick.specs.declared.choice.Choice.{Choice}
use Rattle.lsm_pick.specs.declared.choice.ChooseError.{ChooseError}
use Rattle.lsm_pick.specs.Simple.{are_reversed}
use Rattle.lsm_state.specs.declared.compaction.Options.{Options}
use Rattle.lsm_state.specs.declared.compaction.Begun.{Begun}
use Rattle.lsm_state.specs.declared.compaction.Begun.TheVariants.{DidNothing}
use Rattle.lsm_state.specs.declared.compaction.Finished.{Finished}
use Rattle.lsm_state.specs.Compactions.{Relation}
use Rattle.lsm_state.specs.WholeCompactions.{options_at, only_memory, drop_choice}
use Rattle.lsm_journal.specs.Noted.{IsAnswerOf, BeginsAnswer, EndsNoted, CompactsAnswer}
use Rattle.lsm_recorded.specs.Flushing.{RefusesUnnoted}
use Rattle.lsm_recorded.specs.Passes.{Notes}
use Rattle.lsm_recorded.specs.Recorded.{SeenRecorded}

-- what a call came to is noted, and nothing else
pub record NotesWhatIsDone {S : Type 0} (Does : List Event → Type 0) (old new : SeenRecorded S) (pass pass' : List (ℕ × JournalEntry)) : Type 0 where
  pub events : List Event
  pub does : Does events
  pub noted : Notes events old.journal new.journal pass pass'

-- ---- beginning

-- a strategy is asked, and what is done with its answer is noted; or nothing changes, where there is no room to note it
abbrev pub AnswersRecorded : {S : Type 0} → Relation Choice → Relation ChooseError → (Result Choice Error → List Event → Type 0) → Result Begun Error → SeenRecorded S → SeenRecorded S → List (ℕ × JournalEntry) → List (ℕ × JournalEntry) → Type 0
AnswersRecorded may_choose may_refuse Does r old new pass pass' = RefusesUnnoted r old new pass pass' ⊎ ((answer : Result Choice Error) × IsAnswerOf may_choose may_refuse old.tree.core answer × NotesWhatIsDone (Does answer) old new pass pass')

-- a compaction begins
abbrev pub BeginsRecorded : {S : Type 0} → Relation Choice → Relation ChooseError → Options → Result Begun Error → SeenRecorded S → SeenRecorded S → List (ℕ × JournalEntry) → List (ℕ × JournalEntry) → Type 0
BeginsRecorded may_choose may_refuse o r old new pass pass' = AnswersRecorded may_choose may_refuse (λ answer events. BeginsAnswer answer o r events old.tree.core new.tree.core) r old new pass pass'

-- ---- a merge

-- the end of a merge
abbrev pub FinishesRecorded : {S : Type 0} → SeenCompaction → Result Finished Error → SeenRecorded S → SeenRecorded S → List (ℕ × JournalEntry) → List (ℕ × JournalEntry) → Type 0
FinishesRecorded job r old new pass pass' = NotesWhatIsDone (λ events. EndsNoted job r events old.tree.core new.tree.core) old new pass pass'

-- ---- a compaction in one call

abbrev pub CompactsRecorded : {S : Type 0} → Relation Choice → Relation ChooseError → Options → Result Begun Error → SeenRecorded S → SeenRecorded S → List (ℕ × JournalEntry) → List (ℕ × JournalEntry) → Type 0
CompactsRecorded may_choose may_refuse o r old new pass pass' = AnswersRecorded may_choose may_refuse (λ answer events. CompactsAnswer answer o r events old.tree.core new.tree.core) r old new pass pass'

-- nothing changes, and nothing is noted
pub record ChangesNothing {S : Type 0} (old new : SeenRecorded S) (pass pass' : List (ℕ × JournalEntry)) : Type 0 where
  pub unchanged : new ≡ old
  pub pass_stays : pass' ≡ pass

-- a range is dropped: nothing is done or noted where the bounds are reversed, unless a commit of unknown outcome came before
pub record DropsRecorded {S : Type 0} (bounds : OwnedBounds) (r : Result Begun Error) (old new : SeenRecorded S) (pass pass' : List (ℕ × JournalEntry)) : Type 0 where
  pub reversed : old.tree.core.lost ≡ None → are_reversed bounds ≡ true → (r ≡ Ok DidNothing) × ChangesNothing old new pass pass'
  pub drops : IsSome old.tree.core.lost ⊎ (are_reversed bounds ≡ false) → CompactsRecorded (drop_choice bounds) only_memory (options_at 0 old.tree.core) r old new pass pass'
