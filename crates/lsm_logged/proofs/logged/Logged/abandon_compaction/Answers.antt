use Rattle.lsm_logged.proofs.NoActs.{closed_not}
use Rattle.lsm_logged.proofs.logged.Logged.abandon_compaction.Goals as goal

pub returns-clause-acts : goal.returns-clause-acts
returns-clause-acts g c tells =
    closed_not g.S.Store.world c.self.inside.tree c.abandon_compaction.new.self c.self.inside.numbers.items c.self.inside.doubted c.args.self.now c.self.view_is _ c.store.ensures (c.crashes_leave_versions.ensures tells) c.abandon_compaction.ensures.store c.args.job c.abandon_compaction.ensures.spends
