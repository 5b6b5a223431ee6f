-- The hidden tables that a compaction state lends.
use Rattle.std.specs.Prelude.{ℕ, List}
use Rattle.std.specs.Borrow.{Lends, MutBor, Fml}
use Rattle.lsm_versions.specs.contracts.hidden_set.HiddenSet.{the_row as hidden_row}
use Rattle.lsm_versions.specs.contracts.compaction_state.CompactionState.{the_row as state_row}

-- the state ends with the hidden tables that the loan left there
abbrev pub LendsHidden : MutBor (List ℕ) → MutBor (List ℕ) → Fml
LendsHidden s r = Lends state_row hidden_row s r (λ ids. ids)
