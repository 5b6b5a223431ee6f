use Rattle.lsm_model.proofs.Counted.{counted_is_in_order}
use Rattle.lsm_model.proofs.laws.counted_is_in_order.Goals as goal

pub returns : goal.returns
returns c = counted_is_in_order
