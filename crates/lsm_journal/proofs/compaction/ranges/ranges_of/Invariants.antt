use Rattle.std.proofs.Common.{◌≡◌, ◌++◌}
use Rattle.lsm_model.specs.Steps.{among}
use Rattle.lsm_versions.specs.Levels.{all_of}
use Rattle.lsm_journal.proofs.DroppedRanges.{ranges_in}
use Rattle.lsm_journal.proofs.compaction.ranges.ranges_of.Given as goal

-- what is there, and what is left
abbrev pub invariant-loop-table : goal.invariant-loop-table
invariant-loop-table l = l.ranges.items ++ ranges_in (among l.ids.keys) l.table-iterator ≡ ranges_in (among l.ids.keys) (all_of l.version.levels)
