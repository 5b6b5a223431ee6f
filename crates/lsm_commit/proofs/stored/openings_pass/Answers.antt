use Rattle.std.proofs.Common.{arith}
use Rattle.lsm_commit.proofs.PassingOpened.{opening_passes}
use Rattle.lsm_commit.proofs.stored.openings_pass.Goals as goal

pub returns : goal.returns
returns g c = λ old new o opens leaves. opening_passes (c.names_are_apart.ensures.version_kind 0 (omega arith)) (g.S.Store.world old) (g.S.Store.world new) o opens leaves
