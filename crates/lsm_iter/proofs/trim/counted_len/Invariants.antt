use Rattle.std.proofs.Common.{◌≡◌, ◌≤◌, length, take, filter}
use Rattle.lsm_iter.specs.Trims.{counts}
use Rattle.lsm_iter.proofs.trim.counted_len.Given as goal

abbrev pub invariant-loop-len : goal.invariant-loop-len
invariant-loop-len l = (l.len ≤ length l.entries) × (filter (counts l.below) (take l.len l.entries) ≡ filter (counts l.below) l.entries)

abbrev pub decreases-loop-len : goal.decreases-loop-len
decreases-loop-len l = l.len
