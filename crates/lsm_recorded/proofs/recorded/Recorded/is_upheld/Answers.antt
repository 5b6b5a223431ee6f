use Rattle.std.proofs.Common.{refl}
use Rattle.lsm_recorded.proofs.FlushedFiles.{same_upholds}
use Rattle.lsm_recorded.proofs.recorded.Recorded.is_upheld.Goals as goal

pub returns : goal.returns
returns g c tells =
    let t = c.args.self.now in
    let w = g.S.Store.world t.tree.store in
    same_upholds w w t.tree.core t.tree.core (c.stays_stored.ensures tells) refl refl
