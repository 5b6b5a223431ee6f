use Rattle.std.proofs.Common.{◌≡◌, ◌++◌, length, List, ℕ}
use Rattle.lsm_iter.proofs.Prefixes.{IsFull}
use Rattle.lsm_iter.proofs.prefix.upper_of.Given as goal

abbrev pub invariant-loop-last : goal.invariant-loop-last
invariant-loop-last l = (t : List ℕ) × (l.prefix ≡ l.rest ++ t) × IsFull t

abbrev pub decreases-loop-last : goal.decreases-loop-last
decreases-loop-last l = length l.rest
