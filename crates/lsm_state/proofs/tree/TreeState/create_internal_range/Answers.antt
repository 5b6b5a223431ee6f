use Rattle.lsm_state.proofs.Readings.{reads_range}
use Rattle.lsm_state.proofs.tree.TreeState.create_internal_range.Goals as goal

pub returns : goal.returns
returns g c = reads_range c.args.self.now.core c.args.index c.args.snapshot c.in_ok-state.state c.in_ok-state.ensures.ok c.lists_are_steps.ensures c.args.bounds.now.0 c.args.bounds.now.1 c.create_range.result c.create_range.ensures.shows c.create_range.ensures.held c.create_range.ensures.memory
