use Rattle.std.proofs.Common.{◌≡◌, ◌++◌}
use Rattle.std.specs.List.{AllByRecursion}
use Rattle.std.specs.Vec.Iter.{into_iter_items}
use Rattle.lsm_versions.specs.Levels.{AreRuns}
use Rattle.lsm_manifest.specs.Standing.{seen_levels}
use Rattle.lsm_manifest.specs.Opening.{IsFilled}
use Rattle.lsm_manifest.proofs.levels.levels_of.Given as goal

abbrev pub invariant-loop-runs : goal.invariant-loop-runs
invariant-loop-runs l = record {
  rest : l.made.items ++ seen_levels (into_iter_items l.runs-iterator) ≡ seen_levels l.fn.levels.items;
  runs : AreRuns l.made.items;
  filled : AllByRecursion (λ r. AllByRecursion IsFilled r) (seen_levels (into_iter_items l.runs-iterator));
}
