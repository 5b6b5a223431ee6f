use Rattle.std.proofs.Common.{ap, ◌∙◌, refl, rules}
use Rattle.lsm_store.specs.Held.{offered}
use Rattle.lsm_store.specs.Files.{HoldSame}
use Rattle.lsm_store.proofs.HeldFiles.{found, set_same, set_alters}
use Rattle.lsm_store.proofs.mem_store.directory.offer_file.Goals as goal

pub returns-in_err-offer-clause-err : goal.returns-in_err-offer-clause-err
returns-in_err-offer-clause-err c =
    let name = c.args.name.now in
    let old = c.args.files.now in
    let h = c.offer.new.self in
    let was = found old name c.in-Some.file.now c.in-Some.ensures.value in
    let same : HoldSame old (c.get_mut.follows.lender h) = set_same name old (c.get_mut.follows.lender h) h ((c.get_mut.follows.holds h).3 (search rules)) (c.in_err-offer.ensures.err ∙ was) in
    search rules

pub returns-in-Some-clause-ok : goal.returns-in-Some-clause-ok
returns-in-Some-clause-ok c =
    let name = c.args.name.now in
    let old = c.args.files.now in
    let h = c.offer.new.self in
    let f = offered c.args.shown c.args.bytes.now in
    let was = found old name c.in-Some.file.now c.in-Some.ensures.value in
    set_alters name old (c.get_mut.follows.lender h) h ((c.get_mut.follows.holds h).3 (search rules)) old f (λ n. refl) (c.in_ok-offer.ensures.ok ∙ ap f was)
