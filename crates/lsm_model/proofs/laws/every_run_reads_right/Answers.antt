use Rattle.lsm_model.proofs.Runs.{every_run}
use Rattle.lsm_model.proofs.laws.every_run_reads_right.Goals as goal

pub returns : goal.returns
returns c = every_run
