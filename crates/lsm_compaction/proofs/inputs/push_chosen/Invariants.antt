use Rattle.std.proofs.Common.{◌≡◌, ◌++◌, take}
use Rattle.lsm_compaction.specs.Merges.{inputs_in}
use Rattle.lsm_compaction.proofs.inputs.push_chosen.Given as goal

abbrev pub invariant-loop-run : goal.invariant-loop-run
invariant-loop-run l = l.inputs.items ≡ l.initial.inputs.items ++ inputs_in l.ids.keys (take l.run-index l.runs)
