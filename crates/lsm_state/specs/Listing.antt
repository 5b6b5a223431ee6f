-- The pairs that a tree shows within bounds, or of the keys that begin so.
use Rattle.std.specs.Prelude.{◌≡◌, ℕ, List, None, map}
use Rattle.std.specs.declared.ops.Bound.{Bound}
use Rattle.lsm_below.specs.Keys.{Bytes}
use Rattle.lsm_below.specs.Entries.{Entry}
use Rattle.lsm_iter.specs.Guards.{pair_of}
use Rattle.lsm_state.specs.Core.{Core}
use Rattle.lsm_state.specs.Ranges.{Ranges, Prefixes}

-- the pairs of the list of what a snapshot shows within bounds
abbrev pub Lists : Core → Bound Bytes → Bound Bytes → ℕ → List (Bytes × Bytes) → Type 0
Lists c low high s pairs = (out : List Entry) × Ranges c None low high s out × (pairs ≡ map pair_of out)

-- the pairs of the list of what a snapshot shows of the keys that begin so
abbrev pub ListsPrefix : Core → Bytes → ℕ → List (Bytes × Bytes) → Type 0
ListsPrefix c prefix s pairs = (out : List Entry) × Prefixes c None prefix s out × (pairs ≡ map pair_of out)
