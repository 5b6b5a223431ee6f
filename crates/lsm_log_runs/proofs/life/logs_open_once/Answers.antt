use Rattle.lsm_log_runs.proofs.Once.{opens_once}
use Rattle.lsm_log_runs.proofs.life.logs_open_once.Goals as goal

pub returns : goal.returns
returns c = opens_once c.images_stand_once.ensures.found c.no_record_begins_another.ensures
