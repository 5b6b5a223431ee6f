use Rattle.std.proofs.Common.{arith}
use Rattle.lsm_manifest.specs.Spelling.{levels_in}
use Rattle.lsm_manifest.proofs.Whole.{is_told, gives_levels}
use Rattle.lsm_manifest.proofs.reading.version_told.Goals as goal

pub returns-clause-read : goal.returns-clause-read
returns-clause-read c = is_told (λ x. (x.0, levels_in x.1.items)) c.args.bytes.now c.told_of.result (λ i. omega (arith, c.type_inv.bytes i)) c.told_of.ensures

pub returns-clause-levels : goal.returns-clause-levels
returns-clause-levels c = gives_levels (λ x. (x.0, levels_in x.1.items)) c.args.bytes.now c.told_of.result c.told_of.ensures
