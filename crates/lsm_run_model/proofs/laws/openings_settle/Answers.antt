use Rattle.lsm_run_model.proofs.Settling.{settling}
use Rattle.lsm_run_model.proofs.laws.openings_settle.Goals as goal

pub returns : goal.returns
returns g c n = settling (g.V.Finding.shows n) _
