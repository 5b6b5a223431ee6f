use Rattle.lsm_log_runs.proofs.Opening.{opened_stands}
use Rattle.lsm_log_runs.proofs.life.opened_logs_stand.Goals as goal

pub returns : goal.returns
returns g c store config t opens told may = opened_stands g.S.Store.tells g.S.Store.world store config t opens told (g.met.S.Store.gives_one told store) may
