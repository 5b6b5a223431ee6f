use Rattle.std.proofs.Common.{◌≡◌, take}
use Rattle.lsm_recorded.proofs.copies.share_entries.Given as goal

-- what is shared so far
abbrev pub invariant-loop-entry : goal.invariant-loop-entry
invariant-loop-entry l = record {
  journal : l.copies.journal.items ≡ take l.entry-index l.entries;
  pass : l.copies.pass.items ≡ take l.entry-index l.entries;
}
