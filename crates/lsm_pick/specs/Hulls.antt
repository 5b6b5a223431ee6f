-- Ranges that just hold several tables, and first runs.
use Rattle.std.specs.Prelude.{◌≡◌, Bool, false, Option, None, Some, List, [], filter, MatchOption}
use Rattle.std.specs.List.{list_any}
use Rattle.std.specs.Borrow.{Bor}
use Rattle.lsm_below.specs.Keys.{Bytes}
use Rattle.lsm_below.specs.Ranges.{Range, overlap}
use Rattle.lsm_tables.specs.Tables.{SeenTable}
use Rattle.lsm_versions.specs.Levels.{range}
use Rattle.lsm_pick.specs.Tables.{is_upto, is_begun, is_open}

-- the range ends where the tables do
pub record HasEnds (ts : List SeenTable) (r : Range) : Type 0 where
  pub min : (k : Bytes) → is_begun k ts ≡ is_upto r.min k
  pub max : (k : Bytes) → is_open k ts ≡ is_upto k r.max

-- the range of several tables, none of no table
abbrev pub IsHullOf : List SeenTable → Option Range → Type 0
IsHullOf ts hull = MatchOption hull (ts ≡ []) (HasEnds ts)

-- do two of these overlap?
abbrev pub overlap_of : Option Range → Option Range → Bool
overlap_of None other = false
overlap_of (Some r) None = false
overlap_of (Some r) (Some other) = overlap r other

-- does one of the tables overlap such a range?
abbrev pub is_met_of : Option Range → List SeenTable → Bool
is_met_of None ts = false
is_met_of (Some r) ts = list_any (λ t. overlap (range t) r) ts

-- the tables that do
abbrev pub met_of : Option Range → List SeenTable → List SeenTable
met_of None ts = []
met_of (Some r) ts = filter (λ t. overlap (range t) r) ts

-- the tables of a run that may be missing
abbrev pub shown_run : Option (Bor (List SeenTable)) → List SeenTable
shown_run None = []
shown_run (Some run) = run.now
