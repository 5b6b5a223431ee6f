use Rattle.lsm_manifest.proofs.OpensLemmas.{refused, look_is_sure, leaves_same, stands_found, not_new}
use Rattle.lsm_manifest.proofs.opening.look_for_files.Goals as goal

pub returns-in-Ok-clause-leaves : goal.returns-in-Ok-clause-leaves
returns-in-Ok-clause-leaves g c tells =
    let w = g.S.Store.world in
    leaves_same c.plain_numbers_are_read.ensures (w c.args.store.now) (w c.look.new.store) (g.met.S.Store.only_now tells c.args.store.now) (c.in-Ok.ensures.same tells)

pub returns-in-Err-clause-leaves : goal.returns-in-Err-clause-leaves
returns-in-Err-clause-leaves g c tells =
    let w = g.S.Store.world in
    leaves_same c.plain_numbers_are_read.ensures (w c.args.store.now) (w c.look.new.store) (g.met.S.Store.only_now tells c.args.store.now) (c.in-Err.ensures.same tells)

pub returns-in-Err-clause-refused : goal.returns-in-Err-clause-refused
returns-in-Err-clause-refused g c tells =
    let w = g.S.Store.world in
    (c.in-Err.why, c.tell_open.ensures, refused c.no_image_begins_another.ensures (w c.args.store.now) (w c.look.new.store) c.in-Err.why (c.in-Err.ensures.same tells) (c.in-Err.ensures.looks tells))

pub returns-in-Ok-clause-stands : goal.returns-in-Ok-clause-stands
returns-in-Ok-clause-stands g c tells id ls ts stands small = stands_found c.no_image_begins_another.ensures (g.S.Store.world c.args.store.now).gives c.in-Ok.found id ls ts stands small (c.in-Ok.ensures.looks tells)

pub returns-in-Ok-clause-from : goal.returns-in-Ok-clause-from
returns-in-Ok-clause-from g c tells there = c.in-Ok.ensures.from tells (not_new (g.S.Store.world c.args.store.now).gives c.in-Ok.found there (c.in-Ok.ensures.looks tells))

pub returns-in-Ok-clause-found : goal.returns-in-Ok-clause-found
returns-in-Ok-clause-found g c tells = record { found = c.in-Ok.ensures.looks tells; from = returns-in-Ok-clause-from g c tells; same = c.in-Ok.ensures.same tells }

pub returns-in-Err-clause-sure : goal.returns-in-Err-clause-sure
returns-in-Err-clause-sure g c tells h = look_is_sure (g.S.Store.world c.args.store.now).gives c.in-Err.why c.tell_open.result (c.in-Err.ensures.looks tells) c.tell_open.ensures h
