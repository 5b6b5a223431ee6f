use Rattle.lsm_iter.specs.Lenders.{left_in}
use Rattle.lsm_iter.specs.Left.{end_item}
use Rattle.lsm_iter.specs.declared.tree_iter.End.TheVariants.{Front}
use Rattle.lsm_iter.proofs.Alone.{rises_on}
use Rattle.lsm_iter.proofs.lender.Lender.take_front.Goals as goal

pub invariant_of-self : goal.invariant_of-self
invariant_of-self c = rises_on Front (left_in c.self.inside.source) (left_in c.take_front_in.new.source) (end_item Front (left_in c.self.inside.source)) c.self.invariant c.take_front_in.ensures.takes
