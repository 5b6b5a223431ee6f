use Rattle.std.proofs.Common.{◌≤◌, length, drop, true}
use Rattle.lsm_recorded.specs.Marks.{MarksMore}
use Rattle.lsm_recorded.specs.MarkedTables.{level_entries}
use Rattle.lsm_recorded.proofs.opened.mark_level.Given as goal

abbrev pub invariant-loop-at : goal.invariant-loop-at
invariant-loop-at l = (l.at ≤ length l.runs) × MarksMore l.initial.opened true (level_entries (drop l.at l.runs)) l.opened

abbrev pub decreases-loop-at : goal.decreases-loop-at
decreases-loop-at l = l.at
