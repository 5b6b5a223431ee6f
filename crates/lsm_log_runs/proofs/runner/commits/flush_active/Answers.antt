use Rattle.std.proofs.Common.{inr, subst}
use Rattle.lsm_commit.specs.Causes.{HasCause}
use Rattle.lsm_runs.specs.Causes.{ReplyBlames}
use Rattle.lsm_runs.specs.declared.steps.Reply.TheVariants.{Flushed, FlushedActive, RefusedActive, Refused}
use Rattle.lsm_log_runs.specs.Doing.{ActsFlush}
use Rattle.lsm_log_runs.proofs.Causing.{refused_rotation_cause}
use Rattle.lsm_log_runs.proofs.Rotations.{rotates_stored}
use Rattle.lsm_log_runs.proofs.runner.commits.flush_active.Goals as goal

pub returns-in-Ok-flush-clause-acts : goal.returns-in-Ok-flush-clause-acts
returns-in-Ok-flush-clause-acts g c tells =
    let world = g.S.Store.world in
    record {
      mid = c.rotate_memtable.new.self;
      rotates = (c.in-Ok.ensures.ok, record { store = c.rotate_memtable.ensures.store; numbers = c.rotate_memtable.ensures.log.0; doubt = c.rotate_memtable.ensures.log.1 }, c.in-Ok.ensures.told);
      sealed = c.in-Ok.ensures.acts tells;
      flushes = subst (λ x. ActsFlush c.args.watermark (Flushed c.in-Ok-flush.flushed) (world x) (world c.flush.new.self.store) c.rotate_memtable.new.self c.flush.new.self) c.rotate_memtable.ensures.store (c.in-Ok-flush.ensures.acts tells);
    }

pub returns-in-Ok-flush-clause-stored : goal.returns-in-Ok-flush-clause-stored
returns-in-Ok-flush-clause-stored g c tells h =
    (c.in-Ok-flush.ensures.upholds tells (rotates_stored g.S.Store.world c.args.tree.now c.rotate_memtable.new.self c.in-Ok.sealed (c.in-Ok.ensures.ok, record { store = c.rotate_memtable.ensures.store; numbers = c.rotate_memtable.ensures.log.0; doubt = c.rotate_memtable.ensures.log.1 }, c.in-Ok.ensures.told) h)).0

pub returns-in-Err-flush-clause-takes : goal.returns-in-Err-flush-clause-takes
returns-in-Err-flush-clause-takes g c = inr (c.rotate_memtable.new.self, (c.in-Ok.ensures.ok, record { store = c.rotate_memtable.ensures.store; numbers = c.rotate_memtable.ensures.log.0; doubt = c.rotate_memtable.ensures.log.1 }, c.in-Ok.ensures.told), c.in-Err-flush.ensures.flushes)

pub returns-in-Err-flush-clause-acts : goal.returns-in-Err-flush-clause-acts
returns-in-Err-flush-clause-acts g c tells =
    let world = g.S.Store.world in
    inr (record {
      mid = c.rotate_memtable.new.self;
      rotates = (c.in-Ok.ensures.ok, record { store = c.rotate_memtable.ensures.store; numbers = c.rotate_memtable.ensures.log.0; doubt = c.rotate_memtable.ensures.log.1 }, c.in-Ok.ensures.told);
      sealed = c.in-Ok.ensures.acts tells;
      flushes = subst (λ x. ActsFlush c.args.watermark (Refused c.in-Err-flush.error) (world x) (world c.flush.new.self.store) c.rotate_memtable.new.self c.flush.new.self) c.rotate_memtable.ensures.store (c.in-Err-flush.ensures.acts tells);
    })

pub returns-in-Err-flush-clause-stored : goal.returns-in-Err-flush-clause-stored
returns-in-Err-flush-clause-stored g c tells h =
    (c.in-Err-flush.ensures.upholds tells (rotates_stored g.S.Store.world c.args.tree.now c.rotate_memtable.new.self c.in-Ok.sealed (c.in-Ok.ensures.ok, record { store = c.rotate_memtable.ensures.store; numbers = c.rotate_memtable.ensures.log.0; doubt = c.rotate_memtable.ensures.log.1 }, c.in-Ok.ensures.told) h)).0

-- ---- where the store is blamed

pub returns-in-Err-clause-causes : goal.returns-in-Err-clause-causes
returns-in-Err-clause-causes g c = refused_rotation_cause g.S.Store.world c.args.tree.now c.rotate_memtable.new.self c.in-Err.error c.rotate_memtable.ensures.store c.in-Err.ensures.only

pub returns-in-Ok-flush-clause-causes : goal.returns-in-Ok-flush-clause-causes
returns-in-Ok-flush-clause-causes g c =
    let world = g.S.Store.world in
    subst (λ x. HasCause (ReplyBlames (FlushedActive c.in-Ok.sealed c.in-Ok-flush.flushed)) (world x) (world c.flush.new.self.store)) c.rotate_memtable.ensures.store c.in-Ok-flush.ensures.files.causes

pub returns-in-Err-flush-clause-causes : goal.returns-in-Err-flush-clause-causes
returns-in-Err-flush-clause-causes g c =
    let world = g.S.Store.world in
    subst (λ x. HasCause (ReplyBlames (RefusedActive c.in-Ok.sealed c.in-Err-flush.error)) (world x) (world c.flush.new.self.store)) c.rotate_memtable.ensures.store c.in-Err-flush.ensures.files.causes
