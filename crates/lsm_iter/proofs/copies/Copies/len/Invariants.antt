use Rattle.std.proofs.Common.{◌≡◌, length, take}
use Rattle.lsm_below.specs.Sums.{capped}
use Rattle.lsm_iter.specs.Joined.{joined}
use Rattle.lsm_iter.proofs.copies.Copies.len.Given as goal

abbrev pub invariant-loop-at : goal.invariant-loop-at
invariant-loop-at l = l.len ≡ capped (length (joined (take l.at l.self-inside.blocks.items)))
