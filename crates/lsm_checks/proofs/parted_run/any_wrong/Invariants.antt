use Rattle.std.proofs.Common.{◌≡◌, length}
use Rattle.lsm_checks.specs.Choices.{any_pair}
use Rattle.lsm_checks.specs.Parted.{is_wrong}
use Rattle.lsm_checks.proofs.parted_run.any_wrong.Given as goal

abbrev pub invariant-loop-rest : goal.invariant-loop-rest
invariant-loop-rest l = any_pair (is_wrong l.fault l.to) l.fn.runs ≡ any_pair (is_wrong l.fault l.to) l.rest

abbrev pub decreases-loop-rest : goal.decreases-loop-rest
decreases-loop-rest l = length l.rest
