use Rattle.lsm_model.proofs.Crashes.{opening}
use Rattle.lsm_model.proofs.laws.opening_starts.Goals as goal

pub returns : goal.returns
returns c = opening
