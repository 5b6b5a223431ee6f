use Rattle.std.proofs.Common.{◌≡◌, take, map}
use Rattle.lsm_model.specs.Ops.{op_entries}
use Rattle.lsm_model.specs.declared.journal.JournalEntry.TheVariants.{Write}
use Rattle.lsm_journal.proofs.writes.batch_entries.Given as goal

abbrev pub invariant-loop-key : goal.invariant-loop-key
invariant-loop-key l = l.list.items ≡ map Write (op_entries l.number (take l.key-index l.ops))
