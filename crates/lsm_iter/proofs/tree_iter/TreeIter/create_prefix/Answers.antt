use Rattle.lsm_iter.proofs.tree_iter.TreeIter.create_prefix.Goals as goal

pub returns-clause-held : goal.returns-clause-held
returns-clause-held c = (c.in_ok-bounds.bounds.0, c.in_ok-bounds.bounds.1, c.in_ok-bounds.ensures.ok, c.in_ok-iter.ensures.held)
