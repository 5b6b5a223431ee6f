use Rattle.lsm_below.proofs.Visible.{is_top, has_none}
use Rattle.lsm_below.proofs.laws.first_visible_is_top.Goals as goal

pub returns : goal.returns
returns c = record { found = is_top; none = has_none }
