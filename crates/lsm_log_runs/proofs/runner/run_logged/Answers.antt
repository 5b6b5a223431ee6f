use Rattle.lsm_log_runs.proofs.Runs.{from_free, whole}
use Rattle.lsm_log_runs.proofs.runner.run_logged.Goals as goal

pub returns-clause-runs : goal.returns-clause-runs
returns-clause-runs g c =
    let world = g.S.Store.world in
    whole _ g.S.Store.tells world _ _ c.args.tree.now _ _ (from_free g.S.Store.tells _ world _ _ c.args.tree.now c.new-slots.result _ c.new-slots.ensures.empty c.run_from-taken.ensures.runs) c.give_up_all.ensures.ends
