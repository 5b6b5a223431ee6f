use Rattle.std.proofs.Common.{◌≡◌, take}
use Rattle.lsm_journal.proofs.copies.copy_ranges.Given as goal

-- what is copied so far
abbrev pub invariant-loop-range : goal.invariant-loop-range
invariant-loop-range l = l.copies.items ≡ take l.range-index l.ranges
