-- Words on tables, levels and key ranges.
use Rattle.std.specs.Prelude.{◌≡◌, ℕ, ◌+◌, Bool, cond, ◌&&◌, ◌||◌, List, nat_lt, map, [], slice_index_or, sum_by}
use Rattle.std.specs.List.{list_any}
use Rattle.std.specs.Ordering.{is_le}
use Rattle.lsm_below.specs.Keys.{Bytes, bytes_cmp}
use Rattle.lsm_below.specs.Optimizes.{tables_of}
use Rattle.lsm_tables.specs.Tables.{SeenTable}
use Rattle.lsm_tables.specs.Image.{entry_bytes}
use Rattle.lsm_model.specs.Steps.{among}
use Rattle.lsm_versions.specs.Levels.{Levels, range}

-- the runs of a level
abbrev pub runs_at : Levels → ℕ → List (List SeenTable)
runs_at levels i = slice_index_or levels i []

-- the tables of a level, run by run
abbrev pub at : Levels → ℕ → List SeenTable
at levels i = tables_of (runs_at levels i)

-- the first run of a level, or no tables
abbrev pub first_run : Levels → ℕ → List SeenTable
first_run levels i = slice_index_or (runs_at levels i) 0 []

-- the bytes of a table's file
abbrev pub size : SeenTable → ℕ
size t = 20 + entry_bytes t.entries

-- the bytes of those made before a moment
abbrev pub bytes_below : ℕ → List SeenTable → ℕ
bytes_below moment ts = sum_by (λ t. cond (nat_lt t.created_at moment) (size t) 0) ts

-- is one of the tables hidden?
abbrev pub is_any_hidden : List ℕ → List SeenTable → Bool
is_any_hidden hidden ts = list_any (λ t. among hidden t.id) ts

-- the first key is at most the second
abbrev pub is_upto : Bytes → Bytes → Bool
is_upto a b = is_le (bytes_cmp a b)

-- a table of the list begins at or before the key: so the least key of the list is at most it
abbrev pub is_begun : Bytes → List SeenTable → Bool
is_begun key ts = list_any (λ u. is_upto (range u).min key) ts

-- a table of the list ends at or after the key: so the greatest key of the list is at least it
abbrev pub is_open : Bytes → List SeenTable → Bool
is_open key ts = list_any (λ u. is_upto key (range u).max) ts

-- the range from the least to the greatest key of the list overlaps the table's
abbrev pub meets : List SeenTable → SeenTable → Bool
meets ts t = is_begun (range t).max ts && is_open (range t).min ts

-- the ranges of two lists, each from its least to its greatest key, overlap
abbrev pub spans_meet : List SeenTable → List SeenTable → Bool
spans_meet us ts = list_any (λ t. is_begun (range t).max us) ts && list_any (λ t. is_open (range t).min us) ts

-- the table stands within the range from the least to the greatest key of the list
abbrev pub is_inside : List SeenTable → SeenTable → Bool
is_inside ts t = is_begun (range t).min ts && is_open (range t).max ts

-- ids are added to others: those of these tables
abbrev pub AddsIds : List SeenTable → List ℕ → List ℕ → Type 0
AddsIds ts old new = (i : ℕ) → among new i ≡ (among old i || among (map (λ t. t.id) ts) i)
