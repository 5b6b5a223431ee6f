use Rattle.std.proofs.Common.{[]}
use Rattle.lsm_logged.proofs.Found.{has_records, is_read}
use Rattle.lsm_logged.proofs.laws.records_are_those_read.Goals as goal

pub returns-clause-found : goal.returns-clause-found
returns-clause-found c image tables from records log read is low sound = has_records c.no_record_begins_another.ensures image tables from records read log is c.records_are_found.ensures low sound

pub returns-clause-counted : goal.returns-clause-counted
returns-clause-counted c image from records log read is b there le = is_read c.no_record_begins_another.ensures image [] from records read log is b there le
