use Rattle.std.proofs.Common.{◌≡◌, take}
use Rattle.std.specs.List.{fold}
use Rattle.lsm_tables.specs.Sum.{step}
use Rattle.lsm_tables.proofs.checksum.sum_on.Given as goal

abbrev pub invariant-loop-byte : goal.invariant-loop-byte
invariant-loop-byte l = l.total ≡ fold step l.sum (take l.byte-index l.bytes)
