-- What callers see of an outcome.
use Rattle.std.specs.Prelude.{List}
use Rattle.lsm_model.specs.declared.journal.JournalEntry.{JournalEntry}
use Rattle.lsm_runs.specs.declared.steps.Reply.{Reply}

-- what a step answered, and what it adds to the journal
pub record Told : Type 0 where
  pub reply : Reply
  pub entries : List JournalEntry
