use Rattle.std.proofs.Common.{◌≡◌, drop, filter}
use Rattle.lsm_iter.specs.Trims.{counts}
use Rattle.lsm_iter.proofs.trim.hidden_len.Given as goal

abbrev pub invariant-loop-at : goal.invariant-loop-at
invariant-loop-at l = filter (counts l.below) (drop l.at l.entries) ≡ filter (counts l.below) l.entries
