use Rattle.std.proofs.Common.{◌≡◌, ◌+◌, ◌<◌, true, length, take, get_or}
use Rattle.lsm_below.specs.Entries.{Entry}
use Rattle.lsm_iter.specs.Reads.{at}
use Rattle.lsm_iter.specs.Left.{tops}
use Rattle.lsm_iter.specs.Trims.{counts}
use Rattle.lsm_iter.proofs.trim.newest_place.Given as goal

abbrev pub invariant-loop-place : goal.invariant-loop-place
invariant-loop-place l =
    record {
      inside : l.place < length l.entries;
      same : tops (at l.below (take (l.place + 1) l.entries)) ≡ tops (at l.below l.entries);
      counted : (d : Entry) → counts l.below (get_or l.entries l.place d) ≡ true;
    }

abbrev pub decreases-loop-place : goal.decreases-loop-place
decreases-loop-place l = l.place
