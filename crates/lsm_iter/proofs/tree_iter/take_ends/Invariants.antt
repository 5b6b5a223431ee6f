use Rattle.std.proofs.Common.{◌≡◌, ◌≤◌, take, vec_len, vec_capacity, length}
use Rattle.lsm_iter.specs.Ends.{TakesEnds}
use Rattle.lsm_iter.proofs.tree_iter.take_ends.Given as goal

abbrev pub invariant-loop-end : goal.invariant-loop-end
invariant-loop-end l = record {
  taken : TakesEnds l.fn.iter.left (take l.end-index l.turns) l.pairs.items l.iter.left;
  count : vec_len l.pairs ≡ l.end-index;
  room : length l.turns ≤ vec_capacity l.pairs;
}
