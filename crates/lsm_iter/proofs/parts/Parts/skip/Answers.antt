use Rattle.lsm_iter.proofs.Alone.{rises_on}
use Rattle.lsm_iter.specs.declared.tree_iter.End.TheVariants.{Back}
use Rattle.lsm_iter.proofs.parts.Parts.skip.Goals as goal

pub invariant_of-self-in-Back : goal.invariant_of-self-in-Back
invariant_of-self-in-Back g c = (rises_on Back _ _ _ c.self.invariant.0 c.skip_back.ensures.takes, c.skip_back.ensures.full)
