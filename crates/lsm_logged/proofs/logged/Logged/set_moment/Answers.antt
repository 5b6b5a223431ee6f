use Rattle.lsm_logged.proofs.NoActs.{moment_not}
use Rattle.lsm_logged.proofs.logged.Logged.set_moment.Goals as goal

pub returns-clause-acts : goal.returns-clause-acts
returns-clause-acts g c tells =
    moment_not g.S.Store.world c.self.inside.tree c.set_moment.new.self c.self.inside.numbers.items c.self.inside.doubted c.args.self.now c.self.view_is _ c.store.ensures (c.crashes_leave_versions.ensures tells) c.set_moment.ensures.store c.args.moment c.set_moment.ensures.core
