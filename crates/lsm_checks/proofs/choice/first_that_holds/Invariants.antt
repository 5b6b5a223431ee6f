use Rattle.std.proofs.Common.{◌≡◌, drop}
use Rattle.lsm_checks.specs.Choices.{first_of}
use Rattle.lsm_checks.proofs.choice.first_that_holds.Given as goal

-- none of those so far holds
abbrev pub invariant-loop-reason : goal.invariant-loop-reason
invariant-loop-reason l = first_of l.reasons ≡ first_of (drop l.reason-index l.reasons)
