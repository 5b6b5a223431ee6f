-- Writes, and what they add to a journal.
use Rattle.std.specs.Prelude.{◌≡◌, ℕ, List, [], map, Result, Ok, Err}
use Rattle.lsm_below.specs.Keys.{Bytes}
use Rattle.lsm_below.specs.declared.error.Error.{Error}
use Rattle.lsm_model.specs.Journal.{Event}
use Rattle.lsm_model.specs.Ops.{op_entries}
use Rattle.lsm_model.specs.declared.op.Op.{Op}
use Rattle.lsm_model.specs.declared.journal.JournalEntry.TheVariants.{Write}
use Rattle.lsm_state.specs.Core.{Core}
use Rattle.lsm_state.specs.Calls.{WritesBatch}

-- what a batch under this number tells: each of its writes where it is answered, else nothing
abbrev pub batch_events : ℕ → List (Bytes × Op) → Result ℕ Error → List Event
batch_events n ops (Ok m) = map Write (op_entries n ops)
batch_events n ops (Err x) = []

-- a batch, whatever it answers: it is told where it is answered
abbrev pub WritesNoted : List (Bytes × Op) → Result ℕ Error → List Event → Core → Core → Type 0
WritesNoted ops r events old new = (events ≡ batch_events old.seqno ops r) × WritesBatch ops r old new
