use Rattle.lsm_logged.proofs.Settling.{kept_log, left_log}
use Rattle.lsm_logged.proofs.laws.logs_can_be_settled.Goals as goal

pub returns-clause-kept : goal.returns-clause-kept
returns-clause-kept g c store log from keeps le = kept_log (g.S.Store.world store) log from keeps le

pub returns-clause-left : goal.returns-clause-left
returns-clause-left g c store image from begins = left_log (g.S.Store.world store) image from begins
