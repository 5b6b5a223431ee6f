-- Versions as their files name them.
use Rattle.std.specs.Prelude.{ℕ, ◌+◌, ◌-◌, ◌^◌, min, List, [], ◌∷◌, map, codes, Option, Some, None}
use Rattle.lsm_tables.specs.Image.{image}
use Rattle.lsm_tables.specs.Sum.{sum_of}
use Rattle.lsm_tables.specs.Tables.{SeenTable}
use Rattle.lsm_versions.specs.Levels.{SeenVersion, Levels as SeenLevels, empty_levels, all_of}
use Rattle.lsm_versions.specs.Totals.{greatest_of}
use Rattle.lsm_manifest.specs.declared.recovered_table.RecoveredTable.{RecoveredTable}
use Rattle.lsm_manifest.specs.Spelling.{manifest}

-- a table as a file names it: its id, and the checksum of its own file
abbrev pub named_table : SeenTable → RecoveredTable
named_table t = record { id = t.id; checksum = record { 0 = sum_of (image t.created_at t.entries) }; global_seqno = 0 }

abbrev pub named_runs : List (List SeenTable) → List (List RecoveredTable)
named_runs runs = map (λ run. map named_table run) runs

abbrev pub named_levels : SeenLevels → List (List (List RecoveredTable))
named_levels levels = map named_runs levels

-- the content of a version's file
abbrev pub file_of : SeenVersion → List ℕ
file_of v = manifest (Some v.log_from) (codes "3.1.10") (named_levels v.levels)

-- the number after all that tables hold, 0 where there is no table
abbrev pub after_all : List SeenTable → ℕ
after_all [] = 0
after_all (t ∷ ts) = min (greatest_of (t ∷ ts) + 1) (2 ^ 64 - 1)

-- the number from which a log is read, by what the file tells, and where it tells none by its tables
abbrev pub log_from_in : Option ℕ → SeenLevels → ℕ
log_from_in (Some n) levels = n
log_from_in None levels = after_all (all_of levels)

-- the first version of a tree: it has no table, and a log is read from 0 on
abbrev pub first_version : SeenVersion
first_version = record { id = 0; log_from = 0; levels = empty_levels }
