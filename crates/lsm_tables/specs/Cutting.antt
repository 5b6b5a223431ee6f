-- How a list of entries is cut into tables.
use Rattle.std.specs.Prelude.{◌≡◌, ℕ, ◌-◌, ◌^◌, ◌<◌, ◌≤◌, Bool, false, List, [], ◌∷◌, ◌++◌, length, take, drop, map, slice_index_or}
use Rattle.std.specs.List.{AllByRecursion, flat_map}
use Rattle.lsm_below.specs.Keys.{Bytes}
use Rattle.lsm_below.specs.Entries.{Entry, entry_cmp}
use Rattle.lsm_below.specs.Sorted.{Rises}
use Rattle.lsm_below.specs.Slots.{same_key}
use Rattle.lsm_below.specs.Streams.{KeepsOfMerge}
use Rattle.lsm_below.specs.Runs.{IsRun}
use Rattle.lsm_below.specs.Optimizes.{EachPair}
use Rattle.lsm_tables.specs.Image.{Fits, IsTable, image, entry_bytes}
use Rattle.lsm_tables.specs.Tables.{range_of}

-- what may be cut into tables: entries that rise and fit a table's file
pub record IsWritable (es : List Entry) : Type 0 where
  pub each : AllByRecursion Fits es
  pub rises : Rises entry_cmp es

-- no entry of the one list has a key of the other one
abbrev pub IsApart : List Entry → List Entry → Type 0
IsApart xs ys = AllByRecursion (λ y. AllByRecursion (λ x. same_key x y ≡ false) xs) ys

-- each table but the last one has at least the target in entry bytes
abbrev pub IsFilled : ℕ → List (List Entry) → Type 0
IsFilled target [] = Unit {0}
IsFilled target (t ∷ []) = Unit {0}
IsFilled target (t ∷ (u ∷ tables)) = (target ≤ entry_bytes t) × IsFilled target (u ∷ tables)

-- the table could have ended nowhere before its end: in front of each entry of another key than those before, it has less than the target
abbrev pub HasNoEarlierEnd : ℕ → List Entry → Type 0
HasNoEarlierEnd target t = (xs ys : List Entry) (y : Entry) → t ≡ xs ++ y ∷ ys → 0 < length xs → IsApart xs (y ∷ []) → entry_bytes xs < target

-- the tables of a list: they hold it, table after table; no two have entries of one key; and each ends as soon as it has the target
pub record IsCutting (target : ℕ) (es : List Entry) (tables : List (List Entry)) : Type 0 where
  pub whole : flat_map (λ t. t) tables ≡ es
  pub some : AllByRecursion (λ t. 0 < length t) tables
  pub apart : EachPair IsApart tables
  pub filled : IsFilled target tables
  pub no_later : AllByRecursion (HasNoEarlierEnd target) tables

-- whatever tables the rest is cut into, with a first one before them they are those of the list
abbrev pub CutsFirst : ℕ → List Entry → List Entry → List Entry → Type 0
CutsFirst target es table rest = (later : List (List Entry)) → IsCutting target rest later → IsCutting target es (table ∷ later)

-- the tables into which a list is cut are a run
abbrev pub CutsAreRuns : Type 0
CutsAreRuns = (target : ℕ) (es : List Entry) (tables : List (List Entry)) → Rises entry_cmp es → IsCutting target es tables → IsRun range_of tables

-- the contents of the files of the tables into which a list is cut
pub record AreImagesOf (target made_at : ℕ) (es : List Entry) (images : List Bytes) : Type 0 where
  pub tables : List (List Entry)
  pub cut : IsCutting target es tables
  pub each : AllByRecursion IsTable tables
  pub spelled : images ≡ map (image made_at) tables

-- where the first table of a list ends
pub record IsFirstEnd (target : ℕ) (es : List Entry) (end : ℕ) : Type 0 where
  pub some : 0 < end
  pub within : end ≤ length es
  pub filled : end < length es → target ≤ entry_bytes (take end es)
  pub apart : (d : Entry) → end < length es → same_key (slice_index_or es (end - 1) d) (slice_index_or es end d) ≡ false
  pub none_earlier : (j : ℕ) (d : Entry) → 0 < j → j < end → same_key (slice_index_or es (j - 1) d) (slice_index_or es j d) ≡ false → entry_bytes (take j es) < target

-- entries that are cut in two: the first ones are a table, and the others may be written
pub record IsCutOff (target : ℕ) (es front behind : List Entry) : Type 0 where
  pub table : IsTable front
  pub writable : IsWritable behind
  pub cut : CutsFirst target es front behind

-- where the first table of a list ends, it may be cut off
abbrev pub FirstEndsCut : Type 0
FirstEndsCut = (target : ℕ) (es : List Entry) (end : ℕ) → IsWritable es → IsFirstEnd target es end → end < 2 ^ 64 → IsCutOff target es (take end es) (drop end es)

-- what a compaction keeps of lists that may be written may be written too
abbrev pub KeptIsWritable : Type 0
KeptIsWritable = (w : ℕ) (evict : Bool) (lists : List (List Entry)) (kept : List Entry) → AllByRecursion IsWritable lists → KeepsOfMerge w evict lists kept → IsWritable kept

-- a writer: its target, when its tables are made, and what was written
pub record SeenWriter : Type 0 where
  pub target : ℕ
  pub made_at : ℕ
  pub written : List Entry
