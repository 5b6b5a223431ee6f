use Rattle.std.proofs.Common.{◌≡◌, ◌++◌, List, filter, length, option_copied}
use Rattle.lsm_below.specs.Entries.{Entry}
use Rattle.lsm_iter.specs.Cursors.{firsts_after}
use Rattle.lsm_iter.specs.Trims.{counts}
use Rattle.lsm_iter.proofs.walk.pass_front.Given as goal

abbrev pub invariant-loop-next : goal.invariant-loop-next
invariant-loop-next l = record {
  same : firsts_after (option_copied l.passed) (filter (counts l.below) l.rest) ≡ firsts_after (option_copied l.passed) (filter (counts l.below) l.fn.rest);
  passed : (front : List Entry) × (l.fn.rest ≡ front ++ l.rest);
}

abbrev pub decreases-loop-next : goal.decreases-loop-next
decreases-loop-next l = length l.rest
