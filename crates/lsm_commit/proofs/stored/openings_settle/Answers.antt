use Rattle.std.proofs.Common.{arith}
use Rattle.lsm_commit.proofs.PassingOpened.{opening_settles}
use Rattle.lsm_commit.proofs.stored.openings_settle.Goals as goal

pub returns : goal.returns
returns g c = λ old new o opens n foreign. opening_settles (c.names_are_apart.ensures.version_kind 0 (omega arith)) (g.S.Store.world old) (g.S.Store.world new) o opens n foreign
