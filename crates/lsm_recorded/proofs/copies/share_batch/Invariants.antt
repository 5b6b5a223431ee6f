use Rattle.std.proofs.Common.{◌≡◌, take, map}
use Rattle.lsm_model.specs.Ops.{op_entries}
use Rattle.lsm_model.specs.declared.journal.JournalEntry.TheVariants.{Write}
use Rattle.lsm_recorded.proofs.copies.share_batch.Given as goal

-- the writes that are shared so far
abbrev pub invariant-loop-key : goal.invariant-loop-key
invariant-loop-key l = record {
  journal : l.copies.journal.items ≡ map Write (op_entries l.number (take l.key-index l.ops));
  pass : l.copies.pass.items ≡ map Write (op_entries l.number (take l.key-index l.ops));
}
