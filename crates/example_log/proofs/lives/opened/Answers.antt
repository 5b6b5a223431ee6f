use Rattle.std.proofs.Common.{subst}
use Rattle.lsm_logged.specs.Memory.{world_of}
use Rattle.lsm_logged.specs.Opening.{OpensLogged}
use Rattle.example_log.proofs.lives.opened.Goals as goal

pub returns-in-Ok : goal.returns-in-Ok
returns-in-Ok c = subst (λ k. OpensLogged (Unit {0}) world_of c.args.store k c.in-Ok.tree) c.new.ensures c.in-Ok.ensures.opens
