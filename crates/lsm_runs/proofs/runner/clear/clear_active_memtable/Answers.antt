use Rattle.std.proofs.Common.{refl}
use Rattle.lsm_runs.proofs.runner.clear.clear_active_memtable.Goals as goal

pub returns-in-Ok-clause-takes : goal.returns-in-Ok-clause-takes
returns-in-Ok-clause-takes g c = rw c.silent.ensures (refl, c.in-Ok.ensures.forgets)
