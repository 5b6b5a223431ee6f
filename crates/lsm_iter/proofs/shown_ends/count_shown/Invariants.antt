use Rattle.std.proofs.Common.{◌≡◌, ◌+◌, length}
use Rattle.lsm_iter.proofs.shown_ends.count_shown.Given as goal

abbrev pub invariant-loop-entry : goal.invariant-loop-entry
invariant-loop-entry l = length l.initial.pairs ≡ l.count + length l.pairs

abbrev pub decreases-loop-entry : goal.decreases-loop-entry
decreases-loop-entry l = length l.pairs
