use Rattle.std.proofs.Common.{◌≡◌, ◌++◌}
use Rattle.std.specs.List.{AllByRecursion}
use Rattle.std.specs.Vec.Iter.{into_iter_items}
use Rattle.lsm_below.specs.Runs.{IsRun}
use Rattle.lsm_versions.specs.Levels.{range}
use Rattle.lsm_manifest.specs.Standing.{seen_runs}
use Rattle.lsm_manifest.specs.Opening.{IsFilled}
use Rattle.lsm_manifest.proofs.levels.level_of.Given as goal

abbrev pub invariant-loop-tables : goal.invariant-loop-tables
invariant-loop-tables l = record {
  rest : l.made.items ++ seen_runs (into_iter_items l.tables-iterator) ≡ seen_runs l.fn.runs.items;
  runs : AllByRecursion (IsRun range) l.made.items;
  filled : AllByRecursion IsFilled (seen_runs (into_iter_items l.tables-iterator));
}
