use Rattle.lsm_state.proofs.Readings.{reads_number}
use Rattle.lsm_state.proofs.tree.TreeState.len.Goals as goal

pub returns : goal.returns
returns g c = reads_number c.args.self.now.core c.args.index c.args.snapshot c.in_ok-state.state c.in_ok-state.ensures.ok c.count_shown.result c.count_shown.ensures.ok c.count_shown.ensures.memory
