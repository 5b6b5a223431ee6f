use Rattle.lsm_below.proofs.Whole.{all_kept}
use Rattle.lsm_below.proofs.laws.all_is_kept.Goals as goal

pub returns : goal.returns
returns c = all_kept
