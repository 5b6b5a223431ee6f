use Rattle.std.proofs.Common.{length, map}
use Rattle.lsm_tables.proofs.Cutting.{IsUnderway}
use Rattle.lsm_tables.proofs.multi_writer.write_tables.Given as goal

abbrev pub invariant-loop-rest : goal.invariant-loop-rest
invariant-loop-rest l = IsUnderway l.target l.made_at l.entries (map (λ v. v.items) l.images.items) l.rest

abbrev pub decreases-loop-rest : goal.decreases-loop-rest
decreases-loop-rest l = length l.rest
