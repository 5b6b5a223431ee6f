use Rattle.lsm_pick.proofs.Never.{leveled}
use Rattle.lsm_pick.proofs.laws.leveled_never_drops.Goals as goal

pub returns : goal.returns
returns c rule hidden levels choice may = leveled rule hidden levels choice may
