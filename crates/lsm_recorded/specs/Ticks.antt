-- Places of a journal, ticked off as they are found in passes.
use Rattle.std.specs.Prelude.{◌≡◌, ℕ, ◌+◌, ◌<◌, Bool, false, List, length, slice_index_or, if◌then◌else◌}
use Rattle.lsm_model.specs.declared.journal.JournalEntry.{JournalEntry}
use Rattle.lsm_recorded.specs.Closing.{times_in, times}

-- how often a place was found
abbrev pub found : List Bool → ℕ → ℕ
found ticked place = if slice_index_or ticked place false then 1 else 0

-- after a pass each place was found as often as before and in the pass
abbrev pub Finds : List (ℕ × JournalEntry) → List Bool → List Bool → Type 0
Finds pass old new = (place : ℕ) → place < length old → found new place ≡ found old place + times_in place pass

-- after several passes
abbrev pub FindsAll : List (List (ℕ × JournalEntry)) → List Bool → List Bool → Type 0
FindsAll passes old new = (place : ℕ) → place < length old → found new place ≡ found old place + times place passes
