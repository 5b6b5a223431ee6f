use Rattle.lsm_logged.proofs.NoActs.{spent_not}
use Rattle.lsm_logged.proofs.logged.Logged.abandon_flush.Goals as goal

pub returns-clause-acts : goal.returns-clause-acts
returns-clause-acts g c tells =
    spent_not g.S.Store.world c.self.inside.tree c.abandon_flush.new.self c.self.inside.numbers.items c.self.inside.doubted c.args.self.now c.self.view_is _ c.store.ensures (c.crashes_leave_versions.ensures tells) c.abandon_flush.ensures.store c.args.job.number c.abandon_flush.ensures.core
