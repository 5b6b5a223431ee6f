use Rattle.lsm_store.proofs.HeldFiles.{missed_by, still_nothing}
use Rattle.lsm_store.proofs.mem_store.directory.make_room.Goals as goal

pub returns-clause-same : goal.returns-clause-same
returns-clause-same c =
    let name = c.args.name.now in
    let old = c.args.files.now in
    still_nothing name c.new.result old c.put_file.new.files c.in_ok-put_file.ensures.ok c.new.ensures (missed_by old name c.contains_key.result c.contains_key.ensures c.if-contains_key.false)
