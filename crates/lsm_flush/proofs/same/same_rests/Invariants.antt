use Rattle.std.proofs.Common.{◌≡◌, ◌↔◌, length}
use Rattle.lsm_flush.proofs.same.same_rests.Given as goal

-- what is left is the same just where the whole is
abbrev pub invariant-pairs : goal.invariant-pairs
invariant-pairs l = (l.left ≡ l.right) ↔ (l.fn.left ≡ l.fn.right)

abbrev pub decreases-pairs : goal.decreases-pairs
decreases-pairs l = length l.left
