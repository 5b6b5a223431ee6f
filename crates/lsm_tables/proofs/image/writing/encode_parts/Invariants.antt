use Rattle.std.proofs.Common.{◌≡◌, ◌++◌, length}
use Rattle.std.specs.List.{flat_map, AllByRecursion}
use Rattle.lsm_tables.specs.Image.{Fits, image, spelled}
use Rattle.lsm_tables.proofs.image.writing.encode_parts.Given as goal

-- what is spelled so far, with what is left, is the content
abbrev pub invariant-loop-entry : goal.invariant-loop-entry
invariant-loop-entry l = (l.out.items ++ flat_map spelled l.rest ≡ image l.made_at l.entries) × AllByRecursion Fits l.rest

abbrev pub decreases-loop-entry : goal.decreases-loop-entry
decreases-loop-entry l = length l.rest
