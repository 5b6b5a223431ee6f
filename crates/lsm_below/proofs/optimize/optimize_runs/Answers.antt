use Rattle.lsm_below.proofs.Rules.{optimizes}
use Rattle.lsm_below.proofs.optimize.optimize_runs.Goals as goal

pub returns-clause-rules : goal.returns-clause-rules
returns-clause-rules g c = optimizes g.T.Ranged.range c.args.runs.items c.in_ok-new.new.items c.in_ok-new.ensures
