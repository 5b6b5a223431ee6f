use Rattle.lsm_state.proofs.BehindRecords.{put_ok, put_err}
use Rattle.lsm_state.proofs.writes.recording.put_behind_record.Goals as goal

pub returns-in-Err-clause-records : goal.returns-in-Err-clause-records
returns-in-Err-clause-records g c tells =
    let w = g.S.Store.world in
    let did = c.in-Err.ensures in
    put_err c.args.number c.args.content.now (w c.args.store.now) (w c.put_record.new.store) c.in-Err.error (did.puts tells) (did.any_moment tells) (did.stored tells)

pub returns-clause-records : goal.returns-clause-records
returns-clause-records g c tells =
    let w = g.S.Store.world in
    let did = c.in_default.ensures in
    put_ok c.args.number c.args.content.now (w c.args.store.now) (w c.put_record.new.store) tt (did.puts tells) (did.any_moment tells) (did.stored tells)
