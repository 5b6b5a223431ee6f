-- What a read looks at: sources, newest first, of each of which the entries below a sequence number count.
use Rattle.std.specs.Prelude.{ℕ, List, ◌++◌, map, flat_map, filter, Option, option_map, nat_lt, option_to_list}
use Rattle.std.specs.declared.ops.Bound.{Bound}
use Rattle.lsm_below.specs.Keys.{Bytes}
use Rattle.lsm_below.specs.Entries.{Entry}
use Rattle.lsm_memtable.specs.Memtables.{SeenMemtable, within}
use Rattle.lsm_versions.specs.Levels.{SeenVersion, tables_shown}
use Rattle.std.specs.Borrow.{Bor}

-- entries, and the sequence number below which they count
pub record Part : Type 0 where
  pub entries : List Entry
  pub below : ℕ

-- the entries of a part that count
abbrev pub counted : Part → List Entry
counted part = filter (λ e. nat_lt e.key.seqno part.below) part.entries

-- those of all parts
abbrev pub all_counted : List Part → List Entry
all_counted parts = flat_map counted parts

-- what is read: maybe an index, of which the entries below its own sequence number count; the memtables, newest first; the tables, in the order of a walk
pub record SeenState : Type 0 where
  pub overlay : Option Part
  pub memtables : List (List Entry)
  pub tables : List (List Entry)

-- entries, of which those below the snapshot count
abbrev pub at : ℕ → List Entry → Part
at s es = record { entries = es; below = s }

-- the sources of the tree, newest first
abbrev pub tree_of : SeenState → List (List Entry)
tree_of st = st.memtables ++ st.tables

-- all sources at a snapshot, newest first
abbrev pub parts_at : ℕ → SeenState → List Part
parts_at s st = option_to_list st.overlay ++ map (at s) (tree_of st)

-- all entries that count at a snapshot
abbrev pub counted_at : ℕ → SeenState → List Entry
counted_at s st = all_counted (parts_at s st)

-- what lies of a part within bounds
abbrev pub cut : Bound Bytes → Bound Bytes → Part → Part
cut low high part = record { entries = within low high part.entries; below = part.below }

-- the entries of a version's tables, level by level and run by run
abbrev pub tables_of : SeenVersion → List (List Entry)
tables_of version = tables_shown version.levels

-- an index with its own sequence number, as a part
abbrev pub index_of : Option (Bor SeenMemtable × ℕ) → Option Part
index_of overlay = option_map (λ p. record { entries = p.0.now.entries; below = p.1 }) overlay

-- a version, memtables from the newest, and maybe an index with its own sequence number, as what is read
abbrev pub state_of : SeenVersion → List (Bor SeenMemtable) → Option (Bor SeenMemtable × ℕ) → SeenState
state_of version memtables overlay = record {
  overlay = index_of overlay;
  memtables = map (λ m. m.now.entries) memtables;
  tables = tables_of version;
}
