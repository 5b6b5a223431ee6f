use Rattle.std.proofs.Common.{◌≡◌, ◌++◌, List, length}
use Rattle.lsm_below.specs.Entries.{Entry}
use Rattle.lsm_iter.specs.Reads.{at}
use Rattle.lsm_iter.specs.Left.{tops}
use Rattle.lsm_iter.proofs.walk.pass_back.Given as goal

abbrev pub invariant-loop-last : goal.invariant-loop-last
invariant-loop-last l = record {
  same : tops (at l.below l.rest) ≡ tops (at l.below l.fn.rest);
  passed : (back : List Entry) × (l.fn.rest ≡ l.rest ++ back);
}

abbrev pub decreases-loop-last : goal.decreases-loop-last
decreases-loop-last l = length l.rest
