use Rattle.std.proofs.Common.{◌≡◌}
use Rattle.lsm_versions.specs.Levels.{all_of}
use Rattle.lsm_versions.specs.Totals.{totals_of}
use Rattle.lsm_versions.specs.Walked.{Walked}
use Rattle.lsm_versions.proofs.totals.totals_in.Given as goal

abbrev pub invariant-loop-table : goal.invariant-loop-table
invariant-loop-table l = Walked (λ ts. l.totals ≡ totals_of ts) (all_of l.levels) l.table-iterator
