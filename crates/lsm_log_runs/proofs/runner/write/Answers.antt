use Rattle.std.proofs.Common.{Err, subst}
use Rattle.lsm_logged.specs.Writing.{WritesAct}
use Rattle.lsm_log_runs.proofs.Causing.{write_cause}
use Rattle.lsm_log_runs.proofs.runner.write.Goals as goal

pub returns-in-Err-clause-acts : goal.returns-in-Err-clause-acts
returns-in-Err-clause-acts g c tells =
    let world = g.S.Store.world in
    subst (λ ops. WritesAct ops (Err c.in-Err.error) (world c.args.tree.now.store) (world c.write.new.self.store) c.args.tree.now c.write.new.self) c.in_ok-ops.ensures (c.in-Err.ensures.acts tells)

pub returns-in-Ok-clause-causes : goal.returns-in-Ok-clause-causes
returns-in-Ok-clause-causes g c = write_cause _ _ c.args.tree.now c.write.new.self _ _ c.in-Ok.ensures.writes c.in-Ok.ensures.counts

pub returns-in-Err-clause-causes : goal.returns-in-Err-clause-causes
returns-in-Err-clause-causes g c = write_cause _ _ c.args.tree.now c.write.new.self _ _ c.in-Err.ensures.writes c.in-Err.ensures.counts
