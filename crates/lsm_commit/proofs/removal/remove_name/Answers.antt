use Rattle.lsm_commit.proofs.Removals.{left_beside}
use Rattle.lsm_commit.proofs.removal.remove_name.Goals as goal

pub returns-in-Ok-clause-any_moment : goal.returns-in-Ok-clause-any_moment
returns-in-Ok-clause-any_moment g c tells =
    let w = g.S.Store.world in
    left_beside c.args.name.now (w c.args.store.now) (w c.remove.new.self) c.remove.result (g.met.S.Store.only_now tells c.args.store.now) (c.remove.ensures.changes tells)

pub returns-in-Err-Fault-clause-any_moment : goal.returns-in-Err-Fault-clause-any_moment
returns-in-Err-Fault-clause-any_moment g c tells =
    let w = g.S.Store.world in
    left_beside c.args.name.now (w c.args.store.now) (w c.remove.new.self) c.remove.result (g.met.S.Store.only_now tells c.args.store.now) (c.remove.ensures.changes tells)
