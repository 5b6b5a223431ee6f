use Rattle.lsm_below.proofs.Stretches.{heads_from}
use Rattle.lsm_below.proofs.stretch.Stretch.behind.Goals as goal

pub invariant_of-result : goal.invariant_of-result
invariant_of-result c = heads_from c.args.count c.self.inside.heads.now c.self.inside.entries.now c.self.invariant
