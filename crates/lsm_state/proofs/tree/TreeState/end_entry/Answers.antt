use Rattle.lsm_state.proofs.Readings.{reads_end}
use Rattle.lsm_state.proofs.tree.TreeState.end_entry.Goals as goal

pub returns : goal.returns
returns g c = reads_end c.args.self.now.core c.args.index c.args.snapshot c.in_ok-state.state c.in_ok-state.ensures.ok c.args.end c.end_shown.result c.end_shown.ensures.ok c.end_shown.ensures.memory
