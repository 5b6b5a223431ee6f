use Rattle.std.proofs.Common.{take}
use Rattle.lsm_checks.specs.Choices.{AllStand}
use Rattle.lsm_checks.proofs.lookup.all_stand.Given as goal

abbrev pub invariant-loop-input : goal.invariant-loop-input
invariant-loop-input l = AllStand l.levels (take l.input-index l.inputs)
