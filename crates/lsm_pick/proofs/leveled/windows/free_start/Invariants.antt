use Rattle.std.proofs.Common.{◌≡◌, ℕ, ◌<◌, ◌≤◌, false}
use Rattle.std.specs.List.{slice_range}
use Rattle.lsm_pick.specs.Leveled.{is_free}
use Rattle.lsm_pick.proofs.leveled.windows.free_start.Given as goal

abbrev pub invariant-loop-place : goal.invariant-loop-place
invariant-loop-place l = (p : ℕ) → l.start ≤ p → p < l.place → is_free l.hidden l.next (slice_range l.run p l.end) ≡ false
