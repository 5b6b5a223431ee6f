-- Runs: tables sorted by their keys, no two of which share one.
use Rattle.std.specs.Prelude.{◌≡◌, ℕ, ◌<◌, ◌≤◌, Bool, true, false, ◌&&◌, not, List, [], ◌∷◌, length, slice_index_or}
use Rattle.std.specs.List.{AllByRecursion}
use Rattle.std.specs.declared.ops.Bound.{Bound}
use Rattle.std.specs.declared.ops.Bound.TheVariants.{Included, Excluded, Unbounded}
use Rattle.lsm_below.specs.Keys.{Bytes, is_below}
use Rattle.lsm_below.specs.Ranges.{Range, IsRange}
use Rattle.lsm_below.specs.declared.run.Side.{Side}
use Rattle.lsm_below.specs.declared.run.Side.TheVariants.{EndsBefore, EndsAtOrBefore, StartsBefore, StartsAtOrBefore}

-- each table ends before each later one begins
abbrev pub IsRun : {T : Type 0} → (T → Range) → List T → Type 0
IsRun range [] = Unit {0}
IsRun range (x ∷ xs) = IsRange (range x) × AllByRecursion (λ y. is_below (range x).max (range y).min ≡ true) xs × IsRun range xs

-- how a range stands to a key
abbrev pub stands : Side → Bytes → Range → Bool
stands EndsBefore k r = is_below r.max k
stands EndsAtOrBefore k r = not (is_below k r.max)
stands StartsBefore k r = is_below r.min k
stands StartsAtOrBefore k r = not (is_below k r.min)

-- the items that pass are the first ones, so many
pub record IsCut {T : Type 0} (test : T → Bool) (xs : List T) (at : ℕ) : Type 0 where
  pub at_most : at ≤ length xs
  pub before : (j : ℕ) (d : T) → j < at → test (slice_index_or xs j d) ≡ true
  pub behind : (j : ℕ) (d : T) → at ≤ j → j < length xs → test (slice_index_or xs j d) ≡ false

-- does the range end before what a lower bound lets in?
abbrev pub is_short_of : Bound Bytes → Range → Bool
is_short_of (Included k) r = is_below r.max k
is_short_of (Excluded k) r = not (is_below k r.max)
is_short_of Unbounded r = false

-- does the range begin in what an upper bound lets in?
abbrev pub starts_in : Bound Bytes → Range → Bool
starts_in (Included k) r = not (is_below k r.min)
starts_in (Excluded k) r = is_below r.min k
starts_in Unbounded r = true

-- is the greatest key not before the lower bound, and the least not beyond the upper one?
abbrev pub is_touched : Bound Bytes → Bound Bytes → Range → Bool
is_touched lower upper r = not (is_short_of lower r) && starts_in upper r

-- the first and the last place of what passes
pub record IsSpan {T : Type 0} (test : T → Bool) (xs : List T) (first last : ℕ) : Type 0 where
  pub in_order : first ≤ last
  pub within : last < length xs
  pub first_passes : (d : T) → test (slice_index_or xs first d) ≡ true
  pub last_passes : (d : T) → test (slice_index_or xs last d) ≡ true
  pub before : (j : ℕ) (d : T) → j < first → test (slice_index_or xs j d) ≡ false
  pub behind : (j : ℕ) (d : T) → last < j → j < length xs → test (slice_index_or xs j d) ≡ false
