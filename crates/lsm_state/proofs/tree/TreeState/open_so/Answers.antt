use Rattle.std.proofs.Common.{Err}
use Rattle.std.proofs.lemmas.Result.{err_from_is_err_and}
use Rattle.lsm_state.proofs.Standing.{found_of}
use Rattle.lsm_state.proofs.StandingImages.{stands_for, again}
use Rattle.lsm_state.proofs.tree.TreeState.open_so.Goals as goal

pub returns-in_err-found-clause-opens : goal.returns-in_err-found-clause-opens
returns-in_err-found-clause-opens g c tells =
    let w = g.S.Store.world in
    let p = err_from_is_err_and c.from_residual.result c.from_residual.ensures.1 in
    let left = c.in_err-found.ensures.leaves tells in
    let told = c.in_err-found.ensures.refused tells in
    rw (p.1, p.2) (record {
      shows = λ m stands. tt;
      refuses = λ m stands. found_of w c.opening_finds.ensures c.args.store c.in_err-found.field-0.0.1 (Err c.in_err-found.field-0.0.0) m stands told;
      stands_for = λ ready m. stands_for w c.args.store (Err c.in_err-found.field-0.0) left ready (c.openings_leave_what_was_read.ensures.meanwhile tells) m;
      settles = λ ready m stands. tt;
      stored = λ ready. tt;
      again = λ ready. again w c.args.store (Err c.in_err-found.field-0.0) left ready (c.openings_leave_what_was_read.ensures.meanwhile tells) (g.met.S.Store.gives_one tells c.args.store);
      opens = told;
      leaves = left;
      passes = tt;
    })
