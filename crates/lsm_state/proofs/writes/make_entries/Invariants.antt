use Rattle.std.proofs.Common.{◌≡◌}
use Rattle.lsm_model.specs.Ops.{op_entries}
use Rattle.lsm_state.proofs.writes.make_entries.Given as goal

abbrev pub invariant-loop-key : goal.invariant-loop-key
invariant-loop-key l = l.entries.items ≡ op_entries l.number l.yielded
