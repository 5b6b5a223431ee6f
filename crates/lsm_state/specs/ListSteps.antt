-- Lists of what is shown, as answered reads of the theory.
use Rattle.std.specs.Prelude.{ℕ, List, None}
use Rattle.std.specs.declared.ops.Bound.{Bound}
use Rattle.lsm_below.specs.Keys.{Bytes}
use Rattle.lsm_below.specs.Entries.{Entry}
use Rattle.lsm_state.specs.Core.{Core}
use Rattle.lsm_state.specs.Ranges.{Ranges, Prefixes, IsRangeStep, IsPrefixStep}

-- without an index, whatever list a tree shows in bounds or of a prefix is an answered read of the theory
pub record ListsAreSteps : Type 0 where
  pub range : (c : Core) (low high : Bound Bytes) (s : ℕ) (out : List Entry) → Ranges c None low high s out → IsRangeStep c low high s out
  pub prefix : (c : Core) (prefix : Bytes) (s : ℕ) (out : List Entry) → Prefixes c None prefix s out → IsPrefixStep c prefix s out
