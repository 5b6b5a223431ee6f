-- What is counted of a tree.
use Rattle.std.specs.Prelude.{ℕ, List, flat_map, sum_by}
use Rattle.lsm_below.specs.Entries.{Entry}
use Rattle.lsm_below.specs.Sums.{capped}
use Rattle.lsm_tables.specs.Tables.{SeenTable}
use Rattle.lsm_versions.specs.Levels.{all_of}
use Rattle.lsm_parts.specs.Held.{entries_of}
use Rattle.lsm_state.specs.Kept.{named_by}
use Rattle.lsm_state.specs.Core.{Core}

-- the tables of the latest version
abbrev pub tables_now : Core → List SeenTable
tables_now c = all_of c.history.latest.version.levels

-- their entries
abbrev pub persisted_of : Core → List Entry
persisted_of c = flat_map (λ t. t.entries) (tables_now c)

-- the entries of the memtables that the latest super version names
abbrev pub unflushed_of : Core → List Entry
unflushed_of c = flat_map (entries_of c.memtables) (named_by c.history.latest)

-- a count of each of those tables, all together, up to 2^64 - 1
abbrev pub counted_now : (List Entry → ℕ) → Core → ℕ
counted_now count c = capped (sum_by (λ t. count t.entries) (tables_now c))
