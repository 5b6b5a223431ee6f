use Rattle.std.proofs.Common.{ap, ◌∙◌, refl, rules}
use Rattle.lsm_store.specs.Held.{fresh}
use Rattle.lsm_store.proofs.HeldFiles.{found, set_same, set_alters}
use Rattle.lsm_store.proofs.mem_store.directory.settle_file.Goals as goal

pub returns-in-Some-clause-yes : goal.returns-in-Some-clause-yes
returns-in-Some-clause-yes c there =
    let name = c.args.name.now in
    let old = c.args.files.now in
    let h = c.settle.new.self in
    let was = found old name c.in-Some.file.now c.in-Some.ensures.value in
    set_alters name old (c.get_mut.follows.lender h) h ((c.get_mut.follows.holds h).3 (search rules)) old (λ x. fresh x.gives) (λ n. refl) (c.settle.ensures.yes there ∙ ap (λ x. fresh x.gives) was)

pub returns-in-Some-clause-no : goal.returns-in-Some-clause-no
returns-in-Some-clause-no c none =
    let name = c.args.name.now in
    let old = c.args.files.now in
    let h = c.settle.new.self in
    let was = found old name c.in-Some.file.now c.in-Some.ensures.value in
    set_same name old (c.get_mut.follows.lender h) h ((c.get_mut.follows.holds h).3 (search rules)) (c.settle.ensures.no none ∙ was)
