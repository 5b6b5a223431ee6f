use Rattle.lsm_store.specs.Moments.{put_synced}
use Rattle.lsm_store.proofs.synced.share_synced.Goals as goal

pub returns-clause-puts : goal.returns-clause-puts
returns-clause-puts g c tells =
    let w = g.S.Store.world in
    put_synced c.args.name.now c.args.bytes.now (w c.args.store.now) (w c.write_shared.new.self) (w c.sync.new.self) c.sync.result (c.in_ok-write_shared.ensures.changes tells) (c.sync.ensures.changes tells)
