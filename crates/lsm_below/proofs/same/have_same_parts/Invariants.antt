use Rattle.std.proofs.Common.{◌≡◌, take}
use Rattle.lsm_below.proofs.same.have_same_parts.Given as goal

-- as far as they were compared, they are the same
abbrev pub invariant-loop-at : goal.invariant-loop-at
invariant-loop-at l = take l.at l.left ≡ take l.at l.right
