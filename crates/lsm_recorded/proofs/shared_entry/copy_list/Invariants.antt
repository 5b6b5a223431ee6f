use Rattle.std.proofs.Common.{◌≡◌, take}
use Rattle.lsm_recorded.proofs.shared_entry.copy_list.Given as goal

-- what is copied so far
abbrev pub invariant-loop-entry : goal.invariant-loop-entry
invariant-loop-entry l = l.copies.items ≡ take l.entry-index l.entries
