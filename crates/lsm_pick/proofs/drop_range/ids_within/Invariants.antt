use Rattle.std.proofs.Common.{filter}
use Rattle.lsm_versions.specs.Levels.{all_of, range}
use Rattle.lsm_versions.specs.Walked.{Walked}
use Rattle.lsm_checks.specs.Choices.{AreIdsOf}
use Rattle.lsm_pick.specs.Simple.{holds}
use Rattle.lsm_pick.proofs.drop_range.ids_within.Given as goal

abbrev pub invariant-loop-table : goal.invariant-loop-table
invariant-loop-table l = Walked (λ ts. AreIdsOf l.ids.keys (filter (λ t. holds l.bounds (range t)) ts)) (all_of l.levels) l.table-iterator
