use Rattle.lsm_log.proofs.BesideTree.{put_changes}
use Rattle.lsm_log.proofs.putting.put_record.Goals as goal

pub returns-clause-stored : goal.returns-clause-stored
returns-clause-stored g c tells =
    let old = g.S.Store.world c.args.store.now in
    let new = g.S.Store.world c.put_alone.new.store in
    c.foreign_names_spare.ensures c.args.store.now c.put_alone.new.store (put_changes c.args.number c.args.content.now old new (c.put_alone.ensures.puts tells).keeps (c.put_alone.ensures.any_moment tells))
