use Rattle.lsm_logged.proofs.RotateActs.{rotated_acts}
use Rattle.lsm_logged.proofs.logged.Logged.rotate_memtable.Goals as goal

pub returns-clause-acts : goal.returns-clause-acts
returns-clause-acts g c tells =
    rotated_acts g.S.Store.world c.self.inside.tree c.rotate_memtable.new.self c.self.inside.numbers.items c.self.inside.doubted c.args.self.now c.self.view_is _ c.store.ensures (c.crashes_leave_versions.ensures tells) c.flushes_are_deeds.ensures c.facts.ensures c.rotate_memtable.result c.rotate_memtable.ensures.ok
