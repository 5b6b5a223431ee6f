use Rattle.lsm_journal.proofs.KeptReads.{noted_keep_reads}
use Rattle.lsm_journal.proofs.laws.noted_compactions_keep_reads.Goals as goal

pub returns : goal.returns
returns c = noted_keep_reads c.reads_are_sound.ensures c.compactions_keep_reads.ensures
