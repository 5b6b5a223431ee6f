use Rattle.std.proofs.Common.{◌≡◌, ℕ, ◌<◌, ◌≤◌, ◌-◌, length, get_or, true, false}
use Rattle.lsm_below.specs.Runs.{stands}
use Rattle.lsm_below.proofs.run.count_standing.Given as goal

abbrev pub invariant-loop-low : goal.invariant-loop-low
invariant-loop-low g l =
    (l.low ≤ l.high) × (l.high ≤ length l.tables)
    × ((j : ℕ) (d : g.row.T.Denot) → j < l.low → stands l.side l.key (g.T.Ranged.range (get_or l.tables j d)) ≡ true)
    × ((j : ℕ) (d : g.row.T.Denot) → l.high ≤ j → j < length l.tables → stands l.side l.key (g.T.Ranged.range (get_or l.tables j d)) ≡ false)

abbrev pub decreases-loop-low : goal.decreases-loop-low
decreases-loop-low g l = l.high - l.low
