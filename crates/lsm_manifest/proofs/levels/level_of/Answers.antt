use Rattle.std.proofs.Common.{◌≡◌, ◌∷◌, ◌++◌, refl, sym, ap, subst, ◌∙◌, rules}
use Rattle.std.specs.List.{AllByRecursion}
use Rattle.std.specs.Vec.Iter.{into_iter_items}
use Rattle.lsm_below.specs.Each.{each_right}
use Rattle.lsm_below.specs.Runs.{IsRun}
use Rattle.lsm_versions.specs.Levels.{range}
use Rattle.lsm_manifest.specs.Standing.{seen_runs}
use Rattle.lsm_manifest.proofs.levels.level_of.Goals as goal

pub returns-in-None-run_of : goal.returns-in-None-run_of
returns-in-None-run_of c =
    let made = c.loop-tables.made.items in
    let rest = seen_runs (into_iter_items c.next.new.self) in
    let step : seen_runs (into_iter_items c.loop-tables.tables-iterator) ≡ c.in-Some.tables.items ∷ rest = search rules in
    (refl, λ all. c.in-None-run_of.ensures.none (each_right (IsRun range) made (c.in-Some.tables.items ∷ rest) (subst (AllByRecursion (IsRun range)) (sym c.loop-tables.invariant.rest ∙ ap (λ r. made ++ r) step) all)).0)
