use Rattle.lsm_model.proofs.Orders.{levels_rise}
use Rattle.lsm_model.proofs.laws.levels_rise.Goals as goal

pub returns : goal.returns
returns c = levels_rise
