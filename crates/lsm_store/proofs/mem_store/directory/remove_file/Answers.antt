use Rattle.std.proofs.Common.{ap, ◌∙◌, subst, refl, rules}
use Rattle.lsm_store.specs.Held.{removed, IsWhole}
use Rattle.lsm_store.proofs.HeldFiles.{found, set_alters}
use Rattle.lsm_store.proofs.mem_store.directory.remove_file.Goals as goal

pub returns-in-Some-clause-is : goal.returns-in-Some-clause-is
returns-in-Some-clause-is c =
    let name = c.args.name.now in
    let old = c.args.files.now in
    let h = c.remove.new.self in
    let f = removed c.args.gone in
    let was = found old name c.in-Some.file.now c.in-Some.ensures.value in
    set_alters name old (c.get_mut.follows.lender h) h ((c.get_mut.follows.holds h).3 (search rules)) old f (λ n. refl) (c.remove.ensures.is ∙ ap f was)

pub returns-in-Some-clause-whole : goal.returns-in-Some-clause-whole
returns-in-Some-clause-whole c = subst IsWhole (found c.args.files.now c.args.name.now c.in-Some.file.now c.in-Some.ensures.value) c.remove.ensures.whole
