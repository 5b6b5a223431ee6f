-- What a clear adds to a journal.
use Rattle.std.specs.Prelude.{ℕ, List, Result}
use Rattle.lsm_below.specs.declared.error.Error.{Error}
use Rattle.lsm_model.specs.declared.journal.JournalEntry.{JournalEntry}
use Rattle.lsm_state.specs.Clearing.{Clears, clear_events}
use Rattle.lsm_recorded.specs.Passes.{Notes}
use Rattle.lsm_recorded.specs.Recorded.{SeenRecorded}

-- a clear, whatever it answers: the clear is noted where it is answered, and nothing where it is refused
pub record ClearsNoted {S : Type 0} (r : Result ℕ Error) (old new : SeenRecorded S) (pass pass' : List (ℕ × JournalEntry)) : Type 0 where
  pub clears : Clears r old.tree.core new.tree.core
  pub noted : Notes (clear_events r) old.journal new.journal pass pass'
