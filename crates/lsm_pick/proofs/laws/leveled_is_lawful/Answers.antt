use Rattle.lsm_pick.proofs.Lawful.{lawful}
use Rattle.lsm_pick.proofs.laws.leveled_is_lawful.Goals as goal

pub returns : goal.returns
returns c rule hidden old choice is flat may = lawful rule hidden old choice is flat may
