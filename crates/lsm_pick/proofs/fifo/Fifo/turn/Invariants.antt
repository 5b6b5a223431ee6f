use Rattle.std.proofs.Common.{ℕ, ◌<◌, ◌≤◌, ◌-◌, ◌^◌}
use Rattle.lsm_pick.specs.Tables.{bytes_below}
use Rattle.lsm_pick.specs.Fifo.{fresh}
use Rattle.lsm_pick.proofs.fifo.Fifo.turn.Given as goal

abbrev pub invariant-loop-low : goal.invariant-loop-low
invariant-loop-low l =
    (l.low ≤ l.high) × (bytes_below l.low (fresh l.self l.run) < l.over)
    × ((k : ℕ) → l.high < k → k < 2 ^ 64 → l.over ≤ bytes_below k (fresh l.self l.run))

abbrev pub decreases-loop-low : goal.decreases-loop-low
decreases-loop-low l = l.high - l.low
