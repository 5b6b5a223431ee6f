use Rattle.std.proofs.Common.{◌≡◌, ◌++◌, map, length}
use Rattle.lsm_iter.specs.Guards.{pair_of}
use Rattle.lsm_journal.proofs.reads.ranges.share_pairs.Given as goal

-- the pairs so far, and those that are left
abbrev pub invariant-loop-key : goal.invariant-loop-key
invariant-loop-key l = l.list.items ++ map pair_of l.pairs ≡ map pair_of l.initial.pairs

abbrev pub decreases-loop-key : goal.decreases-loop-key
decreases-loop-key l = length l.pairs
