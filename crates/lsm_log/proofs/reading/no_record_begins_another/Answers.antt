use Rattle.lsm_log.proofs.RecordSpells.{records_first}
use Rattle.lsm_log.proofs.reading.no_record_begins_another.Goals as goal

pub returns : goal.returns
returns c = records_first
