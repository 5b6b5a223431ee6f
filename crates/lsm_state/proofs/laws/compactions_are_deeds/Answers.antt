use Rattle.lsm_state.proofs.CompactionDeeds.{compactions_are_deeds}
use Rattle.lsm_state.proofs.laws.compactions_are_deeds.Goals as goal

pub returns : goal.returns
returns c = compactions_are_deeds c.moves_are_steps.ensures c.drops_are_steps.ensures c.merges_of_inputs_are_steps.ensures
