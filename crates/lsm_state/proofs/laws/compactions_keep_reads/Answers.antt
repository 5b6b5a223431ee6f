use Rattle.lsm_state.proofs.CompactionReads.{compactions_keep_reads}
use Rattle.lsm_state.proofs.laws.compactions_keep_reads.Goals as goal

pub returns : goal.returns
returns c = compactions_keep_reads c.reads_are_sound.ensures
