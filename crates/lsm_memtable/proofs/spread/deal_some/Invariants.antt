use Rattle.std.proofs.Common.{◌≡◌, ◌+◌, ◌≤◌, ◌++◌, vec_len, vec_capacity}
use Rattle.std.specs.Vec.Iter.{into_iter_items, into_iter_len}
use Rattle.lsm_memtable.specs.Blocks.{AreDealt}
use Rattle.lsm_memtable.proofs.spread.deal_some.Given as goal

abbrev pub invariant-loop : goal.invariant-loop
invariant-loop g l = record {
  items : (l.lower.items ++ l.upper.items) ++ into_iter_items l.from ≡ (l.initial.lower.items ++ l.initial.upper.items) ++ into_iter_items l.initial.from;
  left : into_iter_len l.from + l.counter ≡ into_iter_len l.initial.from;
  dealt : AreDealt l.keep l.lower.items l.upper.items;
  len : vec_len l.lower + vec_len l.upper ≡ vec_len l.initial.lower + vec_len l.initial.upper + l.counter;
  lower_room : vec_capacity l.initial.lower ≤ vec_capacity l.lower;
  upper_room : vec_capacity l.initial.upper ≤ vec_capacity l.upper;
}
