-- What batches write, and the entries that writes make.
use Rattle.std.specs.Prelude.{ℕ, Bool, false, ◌||◌, List, [], ◌∷◌, map}
use Rattle.std.specs.List.{list_any}
use Rattle.lsm_below.specs.Keys.{Bytes, is_same}
use Rattle.lsm_below.specs.Entries.{Entry, entry_at, tombstone_at, weak_tombstone_at}
use Rattle.lsm_below.specs.declared.value_type.ValueType.TheVariants.{Value}
use Rattle.lsm_model.specs.declared.op.Op.{Op}
use Rattle.lsm_model.specs.declared.op.Op.TheVariants.{Set, Del, Weak}

-- the entry of a write to a key, under a sequence number
abbrev pub op_entry : Bytes → ℕ → Op → Entry
op_entry k n (Set value) = entry_at k n Value value
op_entry k n Del = tombstone_at k n
op_entry k n Weak = weak_tombstone_at k n

-- the entries of the writes of a batch, all under one sequence number
abbrev pub op_entries : ℕ → List (Bytes × Op) → List Entry
op_entries n ops = map (λ p. op_entry p.0 n p.1) ops

-- the value that a write sets: none where it removes
abbrev pub op_value : Op → Bytes
op_value (Set value) = value
op_value Del = []
op_value Weak = []

-- does a key come twice?
abbrev pub repeats : List Bytes → Bool
repeats [] = false
repeats (k ∷ ks) = list_any (is_same k) ks || repeats ks

-- the keys of a batch
abbrev pub keys_of : List (Bytes × Op) → List Bytes
keys_of ops = map (λ p. p.0) ops
