use Rattle.lsm_iter.proofs.cursor.Cursor.take.Goals as goal

pub invariant_of-self : goal.invariant_of-self
invariant_of-self c = c.take_in.ensures.rises c.self.invariant
