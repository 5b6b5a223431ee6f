use Rattle.lsm_state.proofs.Answered.{range_step, prefix_step}
use Rattle.lsm_state.proofs.laws.lists_are_steps.Goals as goal

pub returns : goal.returns
returns c = record { range = range_step c.parts_are_whole.ensures c.shown_is_the_view.ensures.answer; prefix = prefix_step c.parts_are_whole.ensures c.shown_is_the_view.ensures.prefix_answer }
