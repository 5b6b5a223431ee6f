use Rattle.std.proofs.Common.{◌≡◌, length}
use Rattle.lsm_checks.specs.Choices.{resumes}
use Rattle.lsm_checks.proofs.gaps.run_resumes.Given as goal

abbrev pub invariant-loop-rest : goal.invariant-loop-rest
invariant-loop-rest l = resumes l.ids.keys l.fn.tables ≡ resumes l.ids.keys l.rest

abbrev pub decreases-loop-rest : goal.decreases-loop-rest
decreases-loop-rest l = length l.rest
