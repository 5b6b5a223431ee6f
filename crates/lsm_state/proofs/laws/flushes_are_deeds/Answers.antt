use Rattle.lsm_state.proofs.FlushDeeds.{flushes_are_deeds}
use Rattle.lsm_state.proofs.laws.flushes_are_deeds.Goals as goal

pub returns : goal.returns
returns c = flushes_are_deeds c.flushes_are_steps.ensures
