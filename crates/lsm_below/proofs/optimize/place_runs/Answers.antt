use Rattle.std.proofs.Common.{◌≡◌}
use Rattle.std.proofs.lemmas.List.Elements.{recursion_from_All}
use Rattle.lsm_below.specs.Ranges.{IsRange}
use Rattle.lsm_below.specs.Optimizes.{tables_of}
use Rattle.lsm_below.proofs.Rules.{placed_all, tables_push}
use Rattle.lsm_below.proofs.optimize.place_runs.Goals as goal

pub loop-run-preserved : goal.loop-run-preserved
loop-run-preserved g c =
    let range = g.T.Ranged.range in
    let ts = c.into_tables.result.items in
    let same : ts ≡ c.in-Some.run' = c.into_tables.ensures in
    let valid = recursion_from_All (λ t. IsRange (range t)) ts c.in_ok-place_tables.ensures.ranges in
    rw (c.in_ok-place_tables.ensures.ok, tables_push c.loop-run.yielded c.in-Some.run', ← same)
    (placed_all range ts (tables_of c.loop-run.yielded) c.loop-run.placed.items valid c.loop-run.invariant)
