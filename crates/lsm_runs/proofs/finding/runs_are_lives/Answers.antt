use Rattle.lsm_runs.proofs.RunLives.{runs_are_lives}
use Rattle.lsm_runs.proofs.finding.runs_are_lives.Goals as goal

pub returns : goal.returns
returns g c = runs_are_lives g.S.Store.world _
