use Rattle.std.proofs.Common.{◌^◌}
use Rattle.lsm_log_model.specs.Records.{LogStands}
use Rattle.lsm_log_runs.specs.Images.{IsSmall}
use Rattle.lsm_log_runs.proofs.Crashed.{still_small, crashed_reads}
use Rattle.lsm_log_runs.proofs.Images.{held_weaker}
use Rattle.lsm_log_runs.proofs.life.crashed_logs_open.Goals as goal

pub returns : goal.returns
returns g c opened start past least counter next begins keeps =
    let w = g.S.Store.world next in
    let reads = crashed_reads c.found_tables_show.ensures.shows w (c.crashes_settle.ensures.ready next) (c.logs_can_be_settled.ensures.left next) begins (held_weaker _ LogStands w.gives (λ left holds. holds.recovers.stands) keeps) in
    (reads, λ below. record { read = reads; small = still_small w begins (held_weaker _ IsSmall w.gives (λ left holds. holds.numbered (2 ^ 63) below) keeps) })
