use Rattle.lsm_runs.specs.Dropping.{allowed}
use Rattle.lsm_runs.proofs.Openings.{openings_are_lives}
use Rattle.lsm_runs.proofs.finding.openings_are_lives.Goals as goal

pub returns : goal.returns
returns g c tells may =
    let store = g.met.S.Store in
    openings_are_lives g.S.Store.world c.no_image_begins_another.ensures c.plain_numbers_are_read.ensures c.images_stand_once.ensures.found (store.gives_one tells) (store.counts_now tells) (allowed may)
