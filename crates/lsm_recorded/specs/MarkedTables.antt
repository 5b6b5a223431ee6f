-- The entries of tables, in the order in which they are read.
use Rattle.lsm_recorded.specs.declared.opened.OpenedMarks.{OpenedMarks}
use Rattle.std.specs.Prelude.{◌≡◌, ◌<◌, ◌^◌, List, flat_map}
use Rattle.lsm_below.specs.Entries.{Entry}
use Rattle.lsm_tables.specs.Tables.{SeenTable}
use Rattle.lsm_model.specs.Views.{held}
use Rattle.lsm_versions.specs.Levels.{Levels, SeenVersion, placed_of}
use Rattle.lsm_recorded.specs.Marks.{AreInOrder, IsMarked}

-- numbered below 2^63
abbrev pub IsSmall : Entry → Type 0
IsSmall e = e.key.seqno < 2 ^ 63

abbrev pub run_entries : List SeenTable → List Entry
run_entries tables = flat_map (λ t. t.entries) tables

abbrev pub level_entries : List (List SeenTable) → List Entry
level_entries runs = flat_map run_entries runs

abbrev pub entries_in : Levels → List Entry
entries_in levels = flat_map level_entries levels

-- the tables of these levels are in order
abbrev pub TablesAreInOrder : Levels → Type 0
TablesAreInOrder levels = AreInOrder (held (placed_of levels))

-- the marks of a version's tables, which are in order, beside the version
abbrev pub IsOpenedWith : SeenVersion → OpenedMarks × SeenVersion → Type 0
IsOpenedWith v p = IsMarked p.0.marks p.0.least (held (placed_of v.levels)) × (p.1 ≡ v)
