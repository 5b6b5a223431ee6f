use Rattle.lsm_log.proofs.Changed.{removal_leaves, removal_clears}
use Rattle.lsm_log.proofs.removing.remove_record.Goals as goal

pub returns-in-Ok-clause-any_moment : goal.returns-in-Ok-clause-any_moment
returns-in-Ok-clause-any_moment g c tells = removal_leaves c.args.number c.as_str.result.now _ c.as_str.ensures.value c.record_name.ensures (g.S.Store.world c.args.store.now) (g.S.Store.world c.remove.new.self) c.remove.result (c.remove.ensures.changes tells) (g.met.S.Store.only_now tells c.args.store.now)

pub returns-in-Err-Fault-clause-any_moment : goal.returns-in-Err-Fault-clause-any_moment
returns-in-Err-Fault-clause-any_moment g c tells = removal_leaves c.args.number c.as_str.result.now _ c.as_str.ensures.value c.record_name.ensures (g.S.Store.world c.args.store.now) (g.S.Store.world c.remove.new.self) c.remove.result (c.remove.ensures.changes tells) (g.met.S.Store.only_now tells c.args.store.now)

pub returns-in-Ok-clause-clears : goal.returns-in-Ok-clause-clears
returns-in-Ok-clause-clears g c tells = removal_clears c.args.number c.as_str.result.now _ c.as_str.ensures.value c.record_name.ensures (g.S.Store.world c.args.store.now) (g.S.Store.world c.remove.new.self) c.remove.result (c.remove.ensures.changes tells)

pub returns-in-Err-Fault-clause-clears : goal.returns-in-Err-Fault-clause-clears
returns-in-Err-Fault-clause-clears g c tells = removal_clears c.args.number c.as_str.result.now _ c.as_str.ensures.value c.record_name.ensures (g.S.Store.world c.args.store.now) (g.S.Store.world c.remove.new.self) c.remove.result (c.remove.ensures.changes tells)
