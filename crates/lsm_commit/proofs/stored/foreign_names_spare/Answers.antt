use Rattle.lsm_commit.proofs.Foreign.{AreOfKinds, foreign_spare}
use Rattle.lsm_commit.proofs.stored.foreign_names_spare.Goals as goal

pub returns : goal.returns
returns g c = λ old new.
    let w = g.S.Store.world in
    let n = c.names_are_apart.ensures in
    let kinds : AreOfKinds = record { version_kind = n.version_kind; table_kind = n.table_kind } in
    foreign_spare kinds (w old) (w new)
