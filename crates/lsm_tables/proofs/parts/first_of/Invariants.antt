use Rattle.std.proofs.Common.{◌≡◌, [], take}
use Rattle.lsm_tables.specs.Parts.{in_slices}
use Rattle.lsm_tables.proofs.parts.first_of.Given as goal

-- the slices so far have no entry
abbrev pub invariant-loop-at : goal.invariant-loop-at
invariant-loop-at l = in_slices (take l.at l.later) ≡ []
