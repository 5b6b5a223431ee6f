use Rattle.lsm_runs.proofs.Clearing.{clear_taken}
use Rattle.lsm_runs.proofs.runner.clear.clear.Goals as goal

pub returns-clause-ok : goal.returns-clause-ok
returns-clause-ok g c =
    let cleared = c.clear_noting-entries in
    rw c.of_clear.ensures (clear_taken cleared.result.0 cleared.result.1.items c.args.state.now.core cleared.new.tree.core cleared.ensures.clears)
