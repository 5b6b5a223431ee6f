use Rattle.lsm_state.proofs.Clears.{clear_deeds}
use Rattle.lsm_state.proofs.tree.TreeState.clear.Goals as goal

pub returns-clause-deeds : goal.returns-clause-deeds
returns-clause-deeds g c = clear_deeds c.commit_clear.result c.args.self.now.core c.commit_clear.new.self.core c.facts.ensures c.commit_clear.ensures.clears
