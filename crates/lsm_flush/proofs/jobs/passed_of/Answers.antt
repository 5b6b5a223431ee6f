use Rattle.std.proofs.Common.{◌≡◌, ◌+◌, take, max, arith}
use Rattle.lsm_memtable.specs.Memtables.{highest_of}
use Rattle.lsm_flush.specs.Jobs.{after, entries_in, passed_by}
use Rattle.lsm_flush.proofs.Passed.{passed_more}
use Rattle.lsm_flush.proofs.jobs.passed_of.Goals as goal

pub loop-memtable-preserved : goal.loop-memtable-preserved
loop-memtable-preserved c =
    let ms = c.args.memtables.now in
    let i = c.loop-memtable.memtable-index in
    let m = c.memtable-item.result in
    let more : passed_by (entries_in (take (i + 1) ms)) ≡ max (passed_by (entries_in (take i ms))) (after (highest_of m.entries)) = passed_more ms i m c.loop-memtable-test.true c.memtable-item.is in
    omega (arith, more)
