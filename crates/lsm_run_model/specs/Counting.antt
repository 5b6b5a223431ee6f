-- Outcomes beside the counter of sequence numbers, and the order of calls as callers keep it.
use Rattle.std.specs.Prelude.{ℕ, List, [], ◌∷◌, ◌++◌, map}
use Rattle.lsm_model.specs.Journal.{Event}
use Rattle.lsm_model.specs.Counted.{Counted}
use Rattle.lsm_model.specs.declared.journal.JournalEntry.TheVariants.{Write, Clear, Install, Dropped, Mark, Read}

-- an event of a call, and where the counter stood at its time: a batch has drawn its sequence number by then, an install or a clear draws
-- its own, a mark comes before both
abbrev pub counted_at : ℕ → ℕ → Event → Counted
counted_at before after (Write e) = record { event = Write e; counter = after }
counted_at before after (Clear n) = record { event = Clear n; counter = n }
counted_at before after (Install n) = record { event = Install n; counter = n }
counted_at before after (Dropped ranges n) = record { event = Dropped ranges n; counter = n }
counted_at before after (Mark w) = record { event = Mark w; counter = before }
counted_at before after (Read at question answer) = record { event = Read at question answer; counter = after }
