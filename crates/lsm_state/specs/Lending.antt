-- Counters that a tree lends.
use Rattle.std.specs.Prelude.{ℕ}
use Rattle.std.specs.Borrow.{Lends, MutBor, Fml, RattleType}
use Rattle.lsm_store.specs.declared.store.Store.{Ghosts}
use Rattle.lsm_parts.specs.contracts.seqno.SequenceNumberCounter.{the_row as counter_row}
use Rattle.lsm_state.specs.contracts.tree.TreeState.{the_row as tree_row}
use Rattle.lsm_state.specs.Core.{Seen}

-- the tree with another sequence number in its counter
abbrev pub with_seqno : {S : Type 0} → Seen S → ℕ → Seen S
with_seqno t n = record { store = t.store; core = record (t.core) { seqno = n } }

-- the tree with another sequence number in its visible counter
abbrev pub with_visible : {S : Type 0} → Seen S → ℕ → Seen S
with_visible t n = record { store = t.store; core = record (t.core) { visible_seqno = n } }

-- the tree ends with its counter at the last sequence number that the loan left there
abbrev pub LendsSeqno : (S : RattleType) → Ghosts S.Denot → MutBor (Seen S.Denot) → MutBor ℕ → Fml
LendsSeqno S store t r = Lends (tree_row S store) counter_row t r (with_seqno t.now)

-- the same of the visible counter
abbrev pub LendsVisible : (S : RattleType) → Ghosts S.Denot → MutBor (Seen S.Denot) → MutBor ℕ → Fml
LendsVisible S store t r = Lends (tree_row S store) counter_row t r (with_visible t.now)
