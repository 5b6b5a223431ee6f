use Rattle.lsm_tables.proofs.SumParts.{parts}
use Rattle.lsm_tables.proofs.checksum.sums_of_parts.Goals as goal

pub returns : goal.returns
returns c = parts
