use Rattle.std.proofs.Common.{◌≤◌, length, drop, true}
use Rattle.lsm_recorded.specs.Marks.{MarksMore}
use Rattle.lsm_recorded.proofs.opened.mark_entries.Given as goal

abbrev pub invariant-loop-at : goal.invariant-loop-at
invariant-loop-at l = (l.at ≤ length l.entries) × MarksMore l.initial.opened true (drop l.at l.entries) l.opened

abbrev pub decreases-loop-at : goal.decreases-loop-at
decreases-loop-at l = l.at
