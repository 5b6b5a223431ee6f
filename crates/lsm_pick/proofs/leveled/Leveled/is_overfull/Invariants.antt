use Rattle.std.proofs.Common.{ℕ, ◌≤◌, ◌<◌, ◌-◌, length}
use Rattle.lsm_pick.specs.Leveled.{target_after, unhidden_bytes}
use Rattle.lsm_pick.specs.Tables.{runs_at, at}
use Rattle.lsm_pick.proofs.leveled.Leveled.is_overfull.Given as goal

abbrev pub invariant-loop-i : goal.invariant-loop-i
invariant-loop-i l =
    (k : ℕ) → l.first ≤ k → k < l.i → 0 < length (runs_at l.levels k) →
    target_after l.self (k - l.first) < unhidden_bytes l.hidden (at l.levels k)
