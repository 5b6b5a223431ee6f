use Rattle.std.proofs.Common.{◌≤◌, length, drop, true}
use Rattle.lsm_recorded.specs.Marks.{MarksMore}
use Rattle.lsm_recorded.specs.MarkedTables.{run_entries}
use Rattle.lsm_recorded.proofs.opened.mark_run.Given as goal

abbrev pub invariant-loop-at : goal.invariant-loop-at
invariant-loop-at l = (l.at ≤ length l.tables) × MarksMore l.initial.opened true (run_entries (drop l.at l.tables)) l.opened

abbrev pub decreases-loop-at : goal.decreases-loop-at
decreases-loop-at l = l.at
