use Rattle.lsm_state.proofs.Writing.{tables_spent}
use Rattle.lsm_state.proofs.tree.TreeState.close_flush.Goals as goal

pub invariant_of-self : goal.invariant_of-self
invariant_of-self g c =
    let i = c.self.inside in
    rw (c.without_job.ensures, c.take-open.ensures.value) (c.self.invariant.0, tables_spent i.history c.args.number i.next_table i.flush c.self.invariant.1)
