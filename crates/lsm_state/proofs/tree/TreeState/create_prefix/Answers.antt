use Rattle.lsm_state.proofs.Readings.{reads_prefix}
use Rattle.lsm_state.proofs.tree.TreeState.create_prefix.Goals as goal

pub returns : goal.returns
returns g c = reads_prefix c.args.self.now.core c.args.index c.args.snapshot c.in_ok-state.state c.in_ok-state.ensures.ok c.lists_are_steps.ensures c.args.prefix.now c.create_prefix.result c.create_prefix.ensures.shows c.create_prefix.ensures.held c.create_prefix.ensures.memory
