-- What one caller's calls add to a journal, each entry with its place.
use Rattle.std.specs.Prelude.{◌≡◌, ℕ, ◌+◌, List, [], ◌∷◌, ◌++◌, length}
use Rattle.lsm_model.specs.declared.journal.JournalEntry.{JournalEntry}

-- entries with their places, the first one at this place
abbrev pub listed : ℕ → List JournalEntry → List (ℕ × JournalEntry)
listed n [] = []
listed n (x ∷ xs) = (n, x) ∷ listed (n + 1) xs

-- these entries, and nothing else, are appended to the journal, and with their places to the pass
pub record Notes (entries : List JournalEntry) (journal journal' : List JournalEntry) (pass pass' : List (ℕ × JournalEntry)) : Type 0 where
  pub behind : journal' ≡ journal ++ entries
  pub passed : pass' ≡ pass ++ listed (length journal) entries
