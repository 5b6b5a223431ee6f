use Rattle.lsm_log_runs.proofs.Taken.{taken}
use Rattle.lsm_log_runs.proofs.life.standing_logs_are_taken.Goals as goal

pub returns : goal.returns
returns g c tells = taken g.S.Store.world c.opening_finds.ensures c.images_stand_once.ensures.found (g.met.S.Store.gives_one tells)
