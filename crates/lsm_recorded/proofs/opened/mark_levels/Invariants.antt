use Rattle.std.proofs.Common.{◌≤◌, length, drop, true}
use Rattle.lsm_recorded.specs.Marks.{MarksMore}
use Rattle.lsm_recorded.specs.MarkedTables.{entries_in}
use Rattle.lsm_recorded.proofs.opened.mark_levels.Given as goal

abbrev pub invariant-loop-at : goal.invariant-loop-at
invariant-loop-at l = (l.at ≤ length l.levels) × MarksMore l.initial.opened true (entries_in (drop l.at l.levels)) l.opened

abbrev pub decreases-loop-at : goal.decreases-loop-at
decreases-loop-at l = l.at
