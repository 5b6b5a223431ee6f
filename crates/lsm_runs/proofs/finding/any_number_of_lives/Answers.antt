use Rattle.std.proofs.Common.{◌^◌}
use Rattle.lsm_manifest.specs.Ready.{IsReady}
use Rattle.lsm_run_model.proofs.Lives.{any_number}
use Rattle.lsm_runs.specs.declared.steps.Reply.{Reply}
use Rattle.lsm_runs.specs.Dropping.{allowed}
use Rattle.lsm_runs.specs.Lives.{AreSteps}
use Rattle.lsm_runs.specs.Moments.{Reopens}
use Rattle.lsm_runs.proofs.ReadFiles.{tree_reads}
use Rattle.lsm_runs.proofs.finding.any_number_of_lives.Goals as goal

pub returns : goal.returns
returns g c may =
    let reads = tree_reads g.S.Store.world (2 ^ 63) c.crashes_settle.ensures.ready c.unread_names_dont_matter.ensures c.images_stand_once.ensures.map in
    any_number Reply (AreSteps (allowed may)) IsReady (Reopens (2 ^ 63)) g.S.Store.world reads
