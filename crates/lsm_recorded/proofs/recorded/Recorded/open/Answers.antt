use Rattle.std.proofs.lemmas.Result.{err_from_is_err_and}
use Rattle.lsm_recorded.proofs.Openings.{refused_so}
use Rattle.lsm_recorded.proofs.recorded.Recorded.open.Goals as goal

pub returns-in_err-found-clause-opens : goal.returns-in_err-found-clause-opens
returns-in_err-found-clause-opens g c tells =
    let p = err_from_is_err_and c.from_residual.result c.from_residual.ensures.1 in
    rw (p.1, p.2) (refused_so g.S.Store.world (c.openings_leave_what_was_read.ensures.meanwhile tells) c.args.store c.in_err-found.field-0.0.1 (c.in_err-found.ensures.leaves tells) c.in_err-found.field-0.0.0 (c.in_err-found.ensures.refused tells))

pub returns-clause-opens : goal.returns-clause-opens
returns-clause-opens g c tells =
    c.open_found.ensures.opens tells c.args.store (c.in_ok-found.ensures.found tells) (c.in_ok-found.ensures.stands tells) (c.in_ok-found.ensures.leaves tells)
