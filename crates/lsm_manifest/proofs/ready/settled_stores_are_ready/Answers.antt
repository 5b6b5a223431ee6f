use Rattle.lsm_manifest.proofs.Readiness.{settled_stands}
use Rattle.lsm_manifest.proofs.ready.settled_stores_are_ready.Goals as goal

pub returns : goal.returns
returns g c = λ store. settled_stands c.no_image_begins_another.ensures (g.S.Store.world store)
