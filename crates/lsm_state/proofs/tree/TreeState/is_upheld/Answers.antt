use Rattle.std.proofs.Common.{ap}
use Rattle.lsm_state.proofs.Upholding.{upheld_at}
use Rattle.lsm_state.proofs.tree.TreeState.is_upheld.Goals as goal

pub returns : goal.returns
returns g c tells =
    upheld_at g.S.Store.world c.args.self.now c.self.inside.store (ap (λ t. t.store) c.self.view_is) (c.crashes_leave_versions.ensures tells)
