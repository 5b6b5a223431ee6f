use Rattle.std.proofs.Common.{ap, ◌∙◌, rules}
use Rattle.lsm_store.specs.Held.{doubted}
use Rattle.lsm_store.proofs.HeldFiles.{found, set_alters}
use Rattle.lsm_store.proofs.mem_store.directory.doubt_file.Goals as goal

pub returns-in-Some-clause-ok : goal.returns-in-Some-clause-ok
returns-in-Some-clause-ok c =
    let name = c.args.name.now in
    let room = c.make_room.new.files in
    let h = c.doubt.new.self in
    let was = found room name c.in-Some.file.now c.in-Some.ensures.value in
    set_alters name room (c.get_mut.follows.lender h) h ((c.get_mut.follows.holds h).3 (search rules)) c.args.files.now doubted c.make_room.ensures.same (c.doubt.ensures ∙ ap doubted was)
