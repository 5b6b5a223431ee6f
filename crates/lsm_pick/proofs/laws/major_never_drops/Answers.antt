use Rattle.lsm_pick.proofs.Never.{major}
use Rattle.lsm_pick.proofs.laws.major_never_drops.Goals as goal

pub returns : goal.returns
returns c target hidden levels choice may = major target hidden levels choice may
