use Rattle.std.proofs.Common.{◌≤◌, length, drop}
use Rattle.std.specs.List.{AllByRecursion}
use Rattle.lsm_below.specs.Entries.{HasBytes}
use Rattle.lsm_tables.specs.Tables.{IsCountOf}
use Rattle.lsm_tables.proofs.table.counts.count.Given as goal

abbrev pub invariant-loop-at : goal.invariant-loop-at
invariant-loop-at l = record {
  inside : l.at ≤ length l.entries;
  counts : IsCountOf (drop l.at l.entries) l.counts;
  bytes : AllByRecursion HasBytes (drop l.at l.entries);
}

abbrev pub decreases-loop-at : goal.decreases-loop-at
decreases-loop-at l = l.at
