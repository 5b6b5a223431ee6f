use Rattle.std.proofs.Common.{inr}
use Rattle.std.proofs.lemmas.Result.{err_from_is_err_and}
use Rattle.lsm_state.proofs.Raising.{found_seqno, found_visible}
use Rattle.lsm_state.proofs.tree.TreeState.open_unlogged.Goals as goal

pub returns-in_err-found-clause-refused : goal.returns-in_err-found-clause-refused
returns-in_err-found-clause-refused g c tells =
    let p = err_from_is_err_and c.from_residual.result c.from_residual.ensures.1 in
    rw (p.1, p.2) (inr (c.in_err-found.ensures.refused tells))

pub returns-clause-counted : goal.returns-clause-counted
returns-clause-counted g c =
    let files = c.in_ok-found.found.files.opened in
    found_seqno c.args.config c.raised-config.result files.version files.next_table_id c.open_found.result c.raised-config.ensures c.open_found.ensures.core c.in_ok-found.ensures.small

pub returns-clause-visible : goal.returns-clause-visible
returns-clause-visible g c =
    let files = c.in_ok-found.found.files.opened in
    found_visible c.args.config c.raised-config.result files.version files.next_table_id c.open_found.result c.raised-config.ensures c.open_found.ensures.core c.in_ok-found.ensures.small
