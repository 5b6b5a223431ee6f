use Rattle.std.proofs.Common.{◌≡◌, length}
use Rattle.lsm_checks.specs.Choices.{has_gap}
use Rattle.lsm_checks.proofs.gaps.run_has_gap.Given as goal

abbrev pub invariant-loop-rest : goal.invariant-loop-rest
invariant-loop-rest l = has_gap l.ids.keys l.fn.tables ≡ has_gap l.ids.keys l.rest

abbrev pub decreases-loop-rest : goal.decreases-loop-rest
decreases-loop-rest l = length l.rest
