use Rattle.lsm_state.proofs.Standing.{opened_fresh}
use Rattle.lsm_state.proofs.laws.opened_trees_are_fresh.Goals as goal

pub returns : goal.returns
returns c = opened_fresh
