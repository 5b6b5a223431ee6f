use Rattle.std.proofs.Common.{◌≡◌, take}
use Rattle.lsm_below.specs.Optimizes.{tables_of}
use Rattle.lsm_compaction.specs.Merges.{inputs_in}
use Rattle.lsm_compaction.proofs.inputs.chosen_inputs.Given as goal

abbrev pub invariant-loop-level : goal.invariant-loop-level
invariant-loop-level l = l.inputs.items ≡ inputs_in l.ids.keys (tables_of (take l.level-index l.levels))
