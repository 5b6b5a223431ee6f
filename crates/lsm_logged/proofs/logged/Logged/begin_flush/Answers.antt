use Rattle.lsm_logged.proofs.NoActs.{unsure_not, begun_not}
use Rattle.lsm_logged.proofs.logged.Logged.begin_flush.Goals as goal

pub returns-then-is_flush_unsure-clause-acts : goal.returns-then-is_flush_unsure-clause-acts
returns-then-is_flush_unsure-clause-acts g c tells = unsure_not g.S.Store.world c.self.inside.tree c.self.inside.numbers.items c.self.inside.doubted c.args.self.now c.self.view_is (c.is_upheld.ensures tells)

pub returns-clause-acts : goal.returns-clause-acts
returns-clause-acts g c tells =
    begun_not g.S.Store.world c.self.inside.tree c.begin_flush.new.self c.self.inside.numbers.items c.self.inside.doubted c.args.self.now c.self.view_is _ c.store.ensures (c.crashes_leave_versions.ensures tells) c.begin_flush.ensures.store c.begin_flush.result c.begin_flush.ensures.begins
