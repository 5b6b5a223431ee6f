use Rattle.lsm_runs.specs.Dropping.{allowed}
use Rattle.lsm_log_runs.proofs.Opening.{lived}
use Rattle.lsm_log_runs.proofs.life.opened_runs_are_lives.Goals as goal

pub returns : goal.returns
returns g c told drops allows store config t new opens may leaves quiet fits steps replies run =
    lived g.S.Store.world _ (allowed drops) allows g.S.Store.tells told store config t opens steps replies new leaves quiet fits (c.opened_logs_stand.ensures store config t opens told may) run
