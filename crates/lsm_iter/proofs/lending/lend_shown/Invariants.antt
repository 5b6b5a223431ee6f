use Rattle.std.proofs.Common.{◌≡◌, length}
use Rattle.lsm_iter.specs.Left.{shown_list, left_of}
use Rattle.lsm_iter.proofs.lending.lend_shown.Given as goal

abbrev pub invariant-loop-at : goal.invariant-loop-at
invariant-loop-at l = shown_list (left_of l.fn.lenders) ≡ shown_list (left_of l.lenders)

abbrev pub decreases-loop-at : goal.decreases-loop-at
decreases-loop-at l = length (left_of l.lenders)
