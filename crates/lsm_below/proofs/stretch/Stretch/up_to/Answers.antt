use Rattle.lsm_below.proofs.Stretches.{heads_to}
use Rattle.lsm_below.proofs.stretch.Stretch.up_to.Goals as goal

pub invariant_of-result : goal.invariant_of-result
invariant_of-result c = heads_to c.args.count c.self.inside.heads.now c.self.inside.entries.now c.self.invariant
