use Rattle.std.proofs.Common.{subst}
use Rattle.lsm_journal.specs.NotedWrites.{WritesNoted}
use Rattle.lsm_runs.proofs.Outcomes.{batch_taken}
use Rattle.lsm_runs.proofs.runner.write.Goals as goal

pub returns-clause-ok : goal.returns-clause-ok
returns-clause-ok g c =
    let written = c.write_noting-entries in
    let r = written.result.0 in
    let old = c.args.state.now.core in
    let new = written.new.tree.core in
    rw c.of_batch.ensures (batch_taken c.args.ops.now r written.result.1.items old new (subst (λ ops. WritesNoted ops r written.result.1.items old new) c.in_ok-ops.ensures written.ensures.writes))
