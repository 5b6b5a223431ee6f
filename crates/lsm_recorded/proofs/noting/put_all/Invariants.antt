use Rattle.std.proofs.Common.{◌≡◌, ◌+◌, ◌≤◌, ◌++◌, length, take, vec_len, vec_capacity}
use Rattle.std.specs.Vec.Iter.{into_iter_items, into_iter_len}
use Rattle.lsm_recorded.specs.Passes.{listed}
use Rattle.lsm_recorded.proofs.noting.put_all.Given as goal

abbrev pub invariant-loop-entry : goal.invariant-loop-entry
invariant-loop-entry l = record {
  journal_room : vec_len l.journal + into_iter_len l.entry-iterator.b ≤ vec_capacity l.journal;
  pass_room : vec_len l.pass + into_iter_len l.entry-iterator.b ≤ vec_capacity l.pass;
  front : into_iter_items l.entry-iterator.a ≡ take (length (into_iter_items l.entry-iterator.a)) (into_iter_items l.entry-iterator.b);
  journal : l.initial.journal.items ++ l.fn.entries.items ≡ l.journal.items ++ into_iter_items l.entry-iterator.a;
  pass : l.initial.pass.items ++ listed (length l.initial.journal.items) l.fn.entries.items ≡ l.pass.items ++ listed (length l.journal.items) (into_iter_items l.entry-iterator.a);
}
