use Rattle.std.proofs.Common.{◌≡◌, ◌∷◌, ◌++◌, List, Err, Vec, sym, ap, subst, ◌∙◌, rules}
use Rattle.std.specs.declared.alloc.Global.{Global}
use Rattle.std.specs.List.{AllByRecursion}
use Rattle.std.specs.Vec.Iter.{into_iter_items}
use Rattle.std.proofs.lemmas.Result.{err_from_is_err_and}
use Rattle.lsm_below.specs.Each.{each_right}
use Rattle.lsm_below.specs.Runs.{IsRun}
use Rattle.lsm_tables.specs.Tables.{SeenTable}
use Rattle.lsm_versions.specs.Levels.{Levels, range}
use Rattle.lsm_manifest.specs.declared.fault.OpenError.{OpenError}
use Rattle.lsm_manifest.specs.declared.fault.OpenError.TheVariants as opening
use Rattle.lsm_manifest.specs.Standing.{seen_runs, seen_levels}
use Rattle.lsm_manifest.specs.Opening.{MakesRuns}
use Rattle.lsm_manifest.proofs.levels.levels_of.Goals as goal

-- a level that isn't made
ends : {X Y : Type 0} (view : X → List (List SeenTable)) (all_view : Y → Levels) (e : OpenError) (front rest all : Levels) (x : List (List SeenTable)) → front ++ x ∷ rest ≡ all → MakesRuns {X = X} (IsRun range) x view (Err e)
    → MakesRuns {X = Y} (λ l. AllByRecursion (IsRun range) l) all all_view (Err e)
ends view all_view opening.OutOfMemory front rest all x is bad = tt
ends view all_view opening.Store front rest all x is bad = bad
ends view all_view opening.CommitUnknown front rest all x is bad = bad
ends view all_view (opening.Fault f) front rest all x is bad = (bad.0, λ runs. bad.1 (each_right (λ l. AllByRecursion (IsRun range) l) front (x ∷ rest) (subst (AllByRecursion (λ l. AllByRecursion (IsRun range) l)) (sym is) runs)).0)

pub returns-in_err-level_of : goal.returns-in_err-level_of
returns-in_err-level_of c =
    let made = c.loop-runs.made.items in
    let rest = seen_levels (into_iter_items c.next.new.self) in
    let step : seen_levels (into_iter_items c.loop-runs.runs-iterator) ≡ seen_runs c.in-Some.runs.items ∷ rest = search rules in
    let p = err_from_is_err_and c.from_residual-in_err-level_of.result c.from_residual-in_err-level_of.ensures.1 in
    rw (p.1, p.2) (ends {X = List (List SeenTable)} {Y = Vec (List (List SeenTable)) Global} (λ l. l) (λ v. v.items) c.in_err-level_of.field-0.0 made rest (seen_levels c.args.levels.items) (seen_runs c.in-Some.runs.items) (ap (λ r. made ++ r) (sym step) ∙ c.loop-runs.invariant.rest) c.in_err-level_of.ensures)
