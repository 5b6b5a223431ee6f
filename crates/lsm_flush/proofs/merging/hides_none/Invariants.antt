use Rattle.std.proofs.Common.{◌↔◌, ◌∷◌, length}
use Rattle.lsm_below.specs.Kept.{HidesNone}
use Rattle.lsm_flush.proofs.merging.hides_none.Given as goal

-- so far none was hidden
abbrev pub invariant-loop-entry : goal.invariant-loop-entry
invariant-loop-entry l = HidesNone l.watermark (l.last ∷ l.rest) ↔ HidesNone l.watermark l.fn.entries

abbrev pub decreases-loop-entry : goal.decreases-loop-entry
decreases-loop-entry l = length l.rest
