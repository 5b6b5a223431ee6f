use Rattle.std.proofs.Common.{arith}
use Rattle.lsm_versions.proofs.Hulls.{hulls_more}
use Rattle.lsm_versions.proofs.level.ranges_of.Goals as goal

pub loop-run-preserved : goal.loop-run-preserved
loop-run-preserved c =
    let run = c.run-item.result in
    let h = c.in_ok-aggregate_key_range.field-0 in
    rw c.in_ok-push.ensures.items (hulls_more c.args.runs.now c.loop-run.run-index c.loop-run.ranges.items run h (omega arith) c.run-item.is c.loop-run.invariant c.in_ok-aggregate_key_range.ensures)
