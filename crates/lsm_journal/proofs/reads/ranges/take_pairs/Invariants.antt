use Rattle.std.proofs.Common.{◌≡◌, ◌++◌, map, length}
use Rattle.lsm_iter.specs.Guards.{pair_of}
use Rattle.lsm_journal.proofs.reads.ranges.take_pairs.Given as goal

-- the pairs so far, and those that are left
abbrev pub invariant-loop-entry : goal.invariant-loop-entry
invariant-loop-entry l = l.pairs.items ++ map pair_of l.iter.left ≡ map pair_of l.initial.iter.left

abbrev pub decreases-loop-entry : goal.decreases-loop-entry
decreases-loop-entry l = length l.iter.left
