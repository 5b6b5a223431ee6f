use Rattle.lsm_commit.proofs.Readied.{stored_ready}
use Rattle.lsm_commit.proofs.stored.stored_files_are_ready.Goals as goal

pub returns : goal.returns
returns g c = λ store. stored_ready c.images_stand_once.ensures.found (g.S.Store.world store)
