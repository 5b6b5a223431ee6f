use Rattle.std.specs.FinMap.{empty}
use Rattle.lsm_log_runs.proofs.Fresh.{new_opens}
use Rattle.lsm_manifest.proofs.FindingLemmas.{nothing_in, nothing_stands}
use Rattle.lsm_log_runs.proofs.life.new_logs_open.Goals as goal

pub returns : goal.returns
returns g c store new =
    let w = g.S.Store.world store in
    new_opens c.tables_alone_stand.ensures w new (c.crashes_settle.ensures.ready store nothing_in empty nothing_stands new) (λ from. c.logs_can_be_settled.ensures.left store nothing_in from new)
