use Rattle.lsm_below.specs.Optimizes.{tables_of}
use Rattle.lsm_pick.proofs.leveled.Leveled.move_first.Goals as goal

pub returns : goal.returns
returns c = c.input.ensures (tables_of c.args.first.now) c.in_ok-ids.ensures
