use Rattle.std.proofs.Common.{◌≡◌, ℕ, ◌≤◌, ◌<◌, []}
use Rattle.lsm_pick.specs.Tables.{runs_at}
use Rattle.lsm_pick.proofs.leveled.levels.first_full.Given as goal

abbrev pub invariant-loop-i : goal.invariant-loop-i
invariant-loop-i l = (k : ℕ) → 1 ≤ k → k < l.i → runs_at l.levels k ≡ []
