use Rattle.std.proofs.Common.{ap, ◌∙◌, rules}
use Rattle.lsm_store.specs.Held.{written}
use Rattle.lsm_store.specs.Files.{HoldSame}
use Rattle.lsm_store.proofs.HeldFiles.{found, set_same, set_alters}
use Rattle.lsm_store.proofs.mem_store.directory.write_file.Goals as goal

pub returns-in_err-write-clause-err : goal.returns-in_err-write-clause-err
returns-in_err-write-clause-err c =
    let name = c.args.name.now in
    let room = c.make_room.new.files in
    let h = c.write.new.self in
    let was = found room name c.in-Some.file.now c.in-Some.ensures.value in
    let new = c.get_mut.follows.lender h in
    let kept = set_same name room new h ((c.get_mut.follows.holds h).3 (search rules)) (c.in_err-write.ensures.err ∙ was) in
    let same : HoldSame c.args.files.now new = λ n. kept n ∙ c.make_room.ensures.same n in
    search rules

pub returns-in_ok-write-clause-ok : goal.returns-in_ok-write-clause-ok
returns-in_ok-write-clause-ok c =
    let name = c.args.name.now in
    let room = c.make_room.new.files in
    let h = c.write.new.self in
    let was = found room name c.in-Some.file.now c.in-Some.ensures.value in
    set_alters name room (c.get_mut.follows.lender h) h ((c.get_mut.follows.holds h).3 (search rules)) c.args.files.now (written c.args.content) c.make_room.ensures.same (c.in_ok-write.ensures.ok ∙ ap (written c.args.content) was)
