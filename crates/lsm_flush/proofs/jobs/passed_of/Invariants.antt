use Rattle.std.proofs.Common.{◌≡◌, take}
use Rattle.lsm_flush.specs.Jobs.{entries_in, passed_by}
use Rattle.lsm_flush.proofs.jobs.passed_of.Given as goal

abbrev pub invariant-loop-memtable : goal.invariant-loop-memtable
invariant-loop-memtable l = l.passed ≡ passed_by (entries_in (take l.memtable-index l.memtables))
