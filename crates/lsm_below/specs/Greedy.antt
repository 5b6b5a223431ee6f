-- How the tables are placed one by one: what the private functions of `optimize` and `run` do.
use Rattle.std.specs.Prelude.{◌≡◌, ◌<◌, ◌≤◌, Bool, true, false, ◌&&◌, not, List, [], ◌∷◌, length, if◌then◌else◌}
use Rattle.std.specs.List.{AllByRecursion}
use Rattle.std.specs.List.Sorted.{IsPermutation}
use Rattle.lsm_below.specs.Keys.{is_below}
use Rattle.lsm_below.specs.Ranges.{Range, overlap}
use Rattle.lsm_below.specs.Runs.{IsRun}
use Rattle.lsm_below.specs.Optimizes.{EachPair, tables_of, IsRearranged}

-- the list with t in front of the first table that doesn't end before it
abbrev pub put : {T : Type 0} → (T → Range) → T → List T → List T
put range t [] = t ∷ []
put range t (x ∷ xs) = if is_below (range x).max (range t).min then (x ∷ put range t xs) else (t ∷ x ∷ xs)

-- does no table overlap the range?
abbrev pub is_free : {T : Type 0} → (T → Range) → Range → List T → Bool
is_free range r [] = true
is_free range r (x ∷ xs) = not (overlap (range x) r) && is_free range r xs

-- the runs with t in the run after the last one that has an overlapping table
abbrev pub placed : {T : Type 0} → (T → Range) → T → List (List T) → List (List T)
placed range t [] = (t ∷ []) ∷ []
placed range t (r ∷ rs) = if is_free range (range t) (tables_of (r ∷ rs)) then (put range t r ∷ rs) else (r ∷ placed range t rs)

-- the tables that are done stand in these runs as the rules want it
pub record IsPlaced {T : Type 0} (range : T → Range) (done : List T) (runs : List (List T)) : Type 0 where
  pub same : IsPermutation done (tables_of runs)
  pub each : AllByRecursion (λ r. IsRun range r × (0 < length r)) runs
  pub keys : IsRearranged range done (tables_of runs)
  pub joined : EachPair (λ x y. overlap (range x) (range y) ≡ false) done → length runs ≤ 1

-- does the first table begin after a range ends?
abbrev pub starts_behind : {T : Type 0} → (T → Range) → Range → List T → Bool
starts_behind range r [] = true
starts_behind range r (x ∷ xs) = is_below r.max (range x).min
