use Rattle.lsm_state.proofs.FlushReads.{flushes_keep_reads}
use Rattle.lsm_state.proofs.laws.flushes_keep_reads.Goals as goal

pub returns : goal.returns
returns c = flushes_keep_reads c.reads_are_sound.ensures
