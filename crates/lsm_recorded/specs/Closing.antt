-- Passes that together list a journal.
use Rattle.std.specs.Prelude.{◌≡◌, ℕ, ◌<◌, List, length, Some, nat_eq, slice_get}
use Rattle.std.specs.List.{All, AllPairs, count_by, sum_by}
use Rattle.lsm_model.specs.declared.journal.JournalEntry.{JournalEntry}

-- how often a pass lists a place
abbrev pub times_in : ℕ → List (ℕ × JournalEntry) → ℕ
times_in place pass = count_by (λ x. nat_eq x.0 place) pass

-- how often passes list it
abbrev pub times : ℕ → List (List (ℕ × JournalEntry)) → ℕ
times place passes = sum_by (times_in place) passes

-- a pass lists entries of the journal, each with its place there, by rising places
pub record IsPassOf (journal : List JournalEntry) (pass : List (ℕ × JournalEntry)) : Type 0 where
  pub there : All (λ x. slice_get journal x.0 ≡ Some x.1) pass
  pub rising : AllPairs (λ x y. x.0 < y.0) pass

-- the passes list each place of the journal once, and nothing else
pub record ListTogether (journal : List JournalEntry) (passes : List (List (ℕ × JournalEntry))) : Type 0 where
  pub each : All (IsPassOf journal) passes
  pub once : (place : ℕ) → place < length journal → times place passes ≡ 1
