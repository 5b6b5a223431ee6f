use Rattle.lsm_iter.specs.Lenders.{left_in}
use Rattle.lsm_iter.specs.Left.{end_item}
use Rattle.lsm_iter.proofs.Alone.{rises_on}
use Rattle.lsm_iter.proofs.lender.Lender.take.Goals as goal

pub invariant_of-self : goal.invariant_of-self
invariant_of-self c = rises_on c.args.end (left_in c.self.inside.source) (left_in c.skip_in.new.source) (end_item c.args.end (left_in c.self.inside.source)) c.self.invariant c.skip_in.ensures
