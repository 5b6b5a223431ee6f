use Rattle.std.proofs.Common.{◌≡◌, length}
use Rattle.lsm_iter.specs.Left.{shown_list, left_of}
use Rattle.lsm_iter.proofs.lending.lend_alone.Given as goal

abbrev pub invariant-loop-entry : goal.invariant-loop-entry
invariant-loop-entry l = record {
  shown : shown_list (left_of l.fn.lenders) ≡ shown_list (left_of l.lenders);
  one : length l.lenders ≡ 1;
}

abbrev pub decreases-loop-entry : goal.decreases-loop-entry
decreases-loop-entry l = length (left_of l.lenders)
