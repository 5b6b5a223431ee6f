use Rattle.std.proofs.Common.{Ok, Err}
use Rattle.lsm_manifest.proofs.OpeningLemmas.{narrows_behind, on_disk_from}
use Rattle.lsm_manifest.proofs.OpensLemmas.{opened, leaves_behind, unsettled, leaves_narrowed}
use Rattle.lsm_manifest.proofs.opening.finish_opening.Goals as goal

pub returns-in-Err-clause-opens : goal.returns-in-Err-clause-opens
returns-in-Err-clause-opens g c tells first looks =
    let w = g.S.Store.world in
    let store = g.met.S.Store in
    let mid = c.settle_names.new.store in
    let narrows = narrows_behind (w first) (w c.args.store.now) (w mid) looks.same (c.settle_names.ensures.narrows tells) in
    (c.in-Err.why, c.tell_open.ensures, unsettled c.no_image_begins_another.ensures (w first) (w mid) c.args.found (store.only_now tells first) (store.only_now tells mid) looks.found narrows (store.gives_one tells mid) looks.from c.in-Err.why c.in-Err.ensures.refusal)

pub returns-in-Err-clause-leaves : goal.returns-in-Err-clause-leaves
returns-in-Err-clause-leaves g c tells first looks =
    let w = g.S.Store.world in
    let mid = w c.settle_names.new.store in
    leaves_narrowed c.plain_numbers_are_read.ensures (w first) mid (g.met.S.Store.only_now tells first) (narrows_behind (w first) (w c.args.store.now) mid looks.same (c.settle_names.ensures.narrows tells))

pub returns-in-Ok-clause-opens : goal.returns-in-Ok-clause-opens
returns-in-Ok-clause-opens g c tells first looks =
    let w = g.S.Store.world in
    let store = g.met.S.Store in
    let start = w c.args.store.now in
    let mid = c.settle_names.new.store in
    let narrows = narrows_behind (w first) start (w mid) looks.same (c.settle_names.ensures.narrows tells) in
    opened (w first) (w mid) (w c.finish.new.store) c.args.found (store.only_now tells first) looks.found narrows c.no_image_begins_another.ensures (store.gives_one tells mid) looks.from (Ok c.in-Ok.opened) (c.in-Ok.ensures.finishes tells)
    (λ n. on_disk_from (w first) start (w mid) looks.same n (c.in_default.ensures.on_disk tells n)) c.in-Ok.ensures.opened tt

pub returns-in-Ok-clause-leaves : goal.returns-in-Ok-clause-leaves
returns-in-Ok-clause-leaves g c tells first looks =
    let w = g.S.Store.world in
    let mid = w c.settle_names.new.store in
    let narrows = narrows_behind (w first) (w c.args.store.now) mid looks.same (c.settle_names.ensures.narrows tells) in
    leaves_behind (w first) mid (w c.finish.new.store) c.args.found (g.met.S.Store.only_now tells first) looks.found narrows c.plain_numbers_are_read.ensures (λ n. on_disk_from (w first) (w c.args.store.now) mid looks.same n (c.in_default.ensures.on_disk tells n)) (Ok c.in-Ok.opened) (c.in-Ok.ensures.finishes tells)

pub returns-in-Err-finish-clause-opens : goal.returns-in-Err-finish-clause-opens
returns-in-Err-finish-clause-opens g c tells first looks =
    let w = g.S.Store.world in
    let store = g.met.S.Store in
    let mid = c.settle_names.new.store in
    let narrows = narrows_behind (w first) (w c.args.store.now) (w mid) looks.same (c.settle_names.ensures.narrows tells) in
    (c.in-Err-finish.why, c.tell_open-in-Err-finish.ensures, opened (w first) (w mid) (w c.finish.new.store) c.args.found (store.only_now tells first) looks.found narrows c.no_image_begins_another.ensures (store.gives_one tells mid) looks.from (Err c.in-Err-finish.why) (c.in-Err-finish.ensures.finishes tells) tt tt c.in-Err-finish.ensures.no_fault)

pub returns-in-Err-finish-clause-leaves : goal.returns-in-Err-finish-clause-leaves
returns-in-Err-finish-clause-leaves g c tells first looks =
    let w = g.S.Store.world in
    let mid = w c.settle_names.new.store in
    let narrows = narrows_behind (w first) (w c.args.store.now) mid looks.same (c.settle_names.ensures.narrows tells) in
    leaves_behind (w first) mid (w c.finish.new.store) c.args.found (g.met.S.Store.only_now tells first) looks.found narrows c.plain_numbers_are_read.ensures (λ n. on_disk_from (w first) (w c.args.store.now) mid looks.same n (c.in_default.ensures.on_disk tells n)) (Err c.in-Err-finish.why) (c.in-Err-finish.ensures.finishes tells)
