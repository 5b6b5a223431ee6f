use Rattle.std.proofs.Common.{◌≡◌, ◌++◌, length}
use Rattle.lsm_flush.proofs.merging.parts_of.Given as goal

abbrev pub invariant-loop-block : goal.invariant-loop-block
invariant-loop-block l = l.parts ++ l.rest ≡ l.memtable.entries

abbrev pub decreases-loop-block : goal.decreases-loop-block
decreases-loop-block l = length l.rest
