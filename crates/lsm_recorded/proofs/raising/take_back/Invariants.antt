use Rattle.std.proofs.Common.{◌≡◌, length}
use Rattle.lsm_below.specs.Keys.{Bytes}
use Rattle.lsm_recorded.specs.Marks.{mark_of}
use Rattle.lsm_recorded.specs.Raising.{restored, AreThere}
use Rattle.lsm_recorded.proofs.raising.take_back.Given as goal

abbrev pub invariant-loop-key : goal.invariant-loop-key
invariant-loop-key l = record {
  raised : (q : Bytes) → restored l.initial.raised.items (mark_of l.initial.marks) q ≡ restored l.raised.items (mark_of l.marks) q;
  there : AreThere l.marks l.raised.items;
}

abbrev pub decreases-loop-key : goal.decreases-loop-key
decreases-loop-key l = length l.raised.items
