-- Outcomes of writes.
use Rattle.std.proofs.Common.{◌≡◌, ℕ, List, [], ◌∷◌, map, Result, Ok, Err, OnOk, OnErr, sym, ap, ◌∙◌}
use Rattle.lsm_below.specs.Keys.{Bytes}
use Rattle.lsm_below.specs.Entries.{Entry}
use Rattle.lsm_below.specs.declared.error.Error.{Error}
use Rattle.lsm_model.specs.Journal.{Event}
use Rattle.lsm_model.specs.Ops.{op_entries}
use Rattle.lsm_model.specs.declared.op.Op.{Op}
use Rattle.lsm_model.specs.declared.journal.JournalEntry.TheVariants.{Write}
use Rattle.lsm_state.specs.Core.{Core}
use Rattle.lsm_state.specs.Calls.{Appends}
use Rattle.lsm_journal.specs.NotedWrites.{WritesNoted}
use Rattle.lsm_runs.specs.Runs.{TakesEntry, TakesBatch, told_entry, told_batch}

-- a write of one entry, beside what is told of it
pub entry_taken : (e : Entry) (r : Result (ℕ × ℕ) Error) (events : List Event) (old new : Core) → OnOk r (events ≡ Write e ∷ []) → OnErr r (events ≡ []) → Appends e r old new → TakesEntry e (told_entry events r).reply (told_entry events r).entries old new
entry_taken e (Ok sizes) events old new told untold a = (told, a)
entry_taken e (Err x) events old new told untold a = (untold, a)

-- a batch, beside what is told of it
pub batch_taken : (ops : List (Bytes × Op)) (r : Result ℕ Error) (events : List Event) (old new : Core) → WritesNoted ops r events old new → TakesBatch ops (told_batch events r).reply (told_batch events r).entries old new
batch_taken ops (Ok n) events old new w = (w.0 ∙ ap (λ m. map Write (op_entries m ops)) (sym w.1.number), w.1)
batch_taken ops (Err x) events old new w = w
