-- Writes that keep the order of a journal.
use Rattle.std.specs.Prelude.{ℕ, ◌+◌, Bool, true, false, not, ◌&&◌, ◌||◌, List, fold, nat_lt, nat_le, ◌==◌}
use Rattle.std.specs.List.{list_all}
use Rattle.lsm_below.specs.Keys.{Bytes, is_same}
use Rattle.lsm_below.specs.Entries.{Entry, is_weak}
use Rattle.lsm_below.specs.declared.value_type.ValueType.{ValueType}
use Rattle.lsm_below.specs.declared.value_type.ValueType.TheVariants.{Value, Tombstone, WeakTombstone}
use Rattle.lsm_model.specs.Journal.{Event, next_of, sets_of, floor}
use Rattle.lsm_model.specs.Ops.{op_entries}
use Rattle.lsm_model.specs.declared.op.Op.{Op}
use Rattle.lsm_model.specs.declared.journal.JournalEntry.TheVariants.{Write, Clear, Install, Dropped, Mark as Watermark, Read}

-- was the key, after an event, removed weakly?
abbrev pub weak_after : Bytes → Bool → Event → Bool
weak_after k b (Write e) = is_same k e.key.user_key && is_weak e || b
weak_after k b (Clear n) = b
weak_after k b (Install n) = b
weak_after k b (Dropped ranges n) = b
weak_after k b (Watermark w) = b
weak_after k b (Read at question answer) = b

-- the same after a whole journal
abbrev pub weak_of : Bytes → List Event → Bool
weak_of k journal = fold (weak_after k) false journal

-- May a write of this type come after the journal? A key that was removed weakly is set only if it never was, and one
-- that was set more than once isn't removed weakly. Values that were opened count as set.
abbrev pub kind_keeps : List Entry → List Event → Bytes → ValueType → Bool
kind_keeps opened journal k Value = not (weak_of k journal) || (sets_of k opened journal == 0)
kind_keeps opened journal k Tombstone = true
kind_keeps opened journal k WeakTombstone = nat_le (sets_of k opened journal) 1

-- Does a write of the entry keep the order of the journal, under a counter? Its sequence number is below the counter, not below
-- an install or a clear, and above each earlier one of its key, opened ones included; and its type keeps to the rule of weak
-- removals.
abbrev pub keeps_order : List Entry → List Event → ℕ → Entry → Bool
keeps_order opened journal counter e = nat_lt e.key.seqno counter && nat_le (floor journal) e.key.seqno && nat_le (next_of e.key.user_key opened journal) e.key.seqno && kind_keeps opened journal e.key.user_key e.key.value_type

-- does each write of a batch, under the sequence number that it draws?
abbrev pub batch_keeps_order : List Entry → List Event → ℕ → List (Bytes × Op) → Bool
batch_keeps_order opened journal n ops = list_all (keeps_order opened journal (n + 1)) (op_entries n ops)
