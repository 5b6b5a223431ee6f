use Rattle.lsm_log_runs.proofs.Causing.{counted_as}
use Rattle.lsm_log_runs.proofs.life.live_logged.Goals as goal

pub returns-clause-lives : goal.returns-clause-lives
returns-clause-lives g c told drops allows may =
    c.opened_runs_are_lives.ensures told drops allows c.args.store c.args.config c.in-Ok.tree _ c.in-Ok.ensures.opens may (c.in-Ok.ensures.leaves told may.ready) (c.in-Ok.ensures.counts.none (λ h. cc h) (λ h. cc h)) c.counter_fits.ensures _ _ c.run_logged-taken.ensures.runs

pub returns-in-Err-clause-only : goal.returns-in-Err-clause-only
returns-in-Err-clause-only g c told may = (c.standing_logs_are_taken.ensures told c.args.store c.in-Err.refused.1 c.in-Err.refused.0 (c.in-Err.ensures.refused told)).0 may

pub returns-in-Err-clause-wants : goal.returns-in-Err-clause-wants
returns-in-Err-clause-wants g c told may = (c.standing_logs_are_taken.ensures told c.args.store c.in-Err.refused.1 c.in-Err.refused.0 (c.in-Err.ensures.refused told)).1 may

pub returns-in-Err-clause-counts : goal.returns-in-Err-clause-counts
returns-in-Err-clause-counts g c = counted_as (g.S.Store.world c.args.store) (g.S.Store.world c.in-Err.refused.1) c.in-Err.refused.0 c.in-Err.ensures.counts
