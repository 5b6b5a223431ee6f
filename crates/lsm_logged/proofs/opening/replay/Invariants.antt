use Rattle.std.proofs.Common.{◌≡◌, ◌++◌}
use Rattle.lsm_model.specs.Ops.{op_entries}
use Rattle.lsm_state.specs.Core.{written_all}
use Rattle.lsm_logged.proofs.opening.replay.Given as goal

abbrev pub invariant-loop-key : goal.invariant-loop-key
invariant-loop-key g l = record {
  core : l.tree.core ≡ written_all (op_entries l.number l.yielded) l.fn.tree.core;
  store : l.tree.store ≡ l.fn.tree.store;
  all : l.fn.read.ops ≡ l.yielded ++ l.key-iterator.rest.items;
}
