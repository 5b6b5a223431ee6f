use Rattle.std.proofs.Common.{◌≡◌, ◌≤◌, true, length, drop}
use Rattle.lsm_below.specs.Optimizes.{tables_of}
use Rattle.lsm_below.specs.Greedy.{is_free}
use Rattle.lsm_below.proofs.optimize.place_behind.Given as goal

abbrev pub invariant-loop-place : goal.invariant-loop-place
invariant-loop-place g l = (l.place ≤ length l.runs) × (is_free g.T.Ranged.range l.range (tables_of (drop l.place l.runs)) ≡ true)

abbrev pub decreases-loop-place : goal.decreases-loop-place
decreases-loop-place g l = l.place
