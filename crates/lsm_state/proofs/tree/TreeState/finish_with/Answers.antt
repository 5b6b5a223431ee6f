use Rattle.lsm_state.proofs.tree.TreeState.finish_with.Goals as goal

pub returns-clause-deeds : goal.returns-clause-deeds
returns-clause-deeds g c = c.compactions_are_deeds.ensures.merges c.args.merged.job c.finish_spent-finished.result c.args.self.now.core c.finish_spent-finished.new.self.core c.facts.ensures c.finish_spent-finished.ensures.finishes
