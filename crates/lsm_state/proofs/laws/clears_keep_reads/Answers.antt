use Rattle.lsm_state.proofs.ClearReads.{clears_keep_reads}
use Rattle.lsm_state.proofs.laws.clears_keep_reads.Goals as goal

pub returns : goal.returns
returns c = clears_keep_reads c.reads_are_sound.ensures
