use Rattle.lsm_model.proofs.Crashes.{every_crash}
use Rattle.lsm_model.proofs.laws.every_crash_recovers.Goals as goal

pub returns : goal.returns
returns c = every_crash
