use Rattle.std.proofs.Common.{take}
use Rattle.lsm_tables.specs.Cutting.{IsWritable}
use Rattle.lsm_tables.proofs.image.limits.is_writable.Given as goal

abbrev pub invariant-loop-i : goal.invariant-loop-i
invariant-loop-i l = IsWritable (take l.i l.entries)
