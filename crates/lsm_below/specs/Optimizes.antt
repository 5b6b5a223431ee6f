-- What joining runs may do: the four rules.
use Rattle.std.specs.Prelude.{◌≡◌, ℕ, ◌<◌, ◌≤◌, true, false, List, [], ◌∷◌, length, slice_index_or}
use Rattle.std.specs.List.{AllByRecursion, Contains, filter, flat_map}
use Rattle.std.specs.List.Sorted.{IsPermutation}
use Rattle.lsm_below.specs.Ranges.{Range, in_range, overlap}
use Rattle.lsm_below.specs.Runs.{IsRun}

-- the tables of several runs, run by run
abbrev pub tables_of : {T : Type 0} → List (List T) → List T
tables_of runs = flat_map (λ r. r) runs

-- for each two elements, the earlier one first
abbrev pub EachPair : {A : Type 0} → (A → A → Type 0) → List A → Type 0
EachPair R [] = Unit {0}
EachPair R (x ∷ xs) = AllByRecursion (R x) xs × EachPair R xs

-- the run at this place has the table
abbrev pub StandsIn : {T : Type 0} → List (List T) → ℕ → T → Type 0
StandsIn runs i t = Contains (slice_index_or runs i []) t

-- a stands in an earlier run than b
abbrev pub StandsBefore : {T : Type 0} → List (List T) → T → T → Type 0
StandsBefore runs a b = (i : ℕ) × (j : ℕ) × (i < j) × StandsIn runs i a × StandsIn runs j b

-- the runs that may come of joining the old ones
pub record Optimizes {T : Type 0} (range : T → Range) (old new : List (List T)) : Type 0 where
  -- the same tables
  pub same : IsPermutation (tables_of old) (tables_of new)
  -- each run has a table, is sorted, and no two of its tables share a key
  pub runs : AllByRecursion (λ r. IsRun range r × (0 < length r)) new
  -- of two overlapping tables the one from the earlier run stands in an earlier run
  pub order : (a b : T) → overlap (range a) (range b) ≡ true → StandsBefore old a b → StandsBefore new a b
  -- where no two tables overlap there is at most one run
  pub joined : EachPair (λ x y. overlap (range x) (range y) ≡ false) (tables_of old) → length new ≤ 1

-- for each key the tables whose range has it keep their order
abbrev pub IsRearranged : {T : Type 0} → (T → Range) → List T → List T → Type 0
IsRearranged range old new = (k : List ℕ) → filter (λ t. in_range k (range t)) new ≡ filter (λ t. in_range k (range t)) old
