use Rattle.lsm_flush.proofs.Sources.{first_writable}
use Rattle.lsm_flush.proofs.merging.merge_unless_whole.Goals as goal

pub returns-then-is_whole-clause-writable : goal.returns-then-is_whole-clause-writable
returns-then-is_whole-clause-writable c = first_writable c.args.memtables.now c.requires
