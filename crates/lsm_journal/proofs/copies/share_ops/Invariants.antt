use Rattle.std.proofs.Common.{◌≡◌, take}
use Rattle.lsm_journal.proofs.copies.share_ops.Given as goal

abbrev pub invariant-loop-key : goal.invariant-loop-key
invariant-loop-key l = l.copy.items ≡ take l.key-index l.ops
