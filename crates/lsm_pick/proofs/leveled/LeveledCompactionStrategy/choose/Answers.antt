use Rattle.lsm_pick.proofs.leveled.LeveledCompactionStrategy.choose.Goals as goal

pub returns-clause-ok : goal.returns-clause-ok
returns-clause-ok c = rw c.hidden_set.ensures at c.in_ok-pick.ensures
