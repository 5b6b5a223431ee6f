-- What callers see of a tree, and how the theory sees it.
use Rattle.std.specs.Prelude.{ℕ, ◌+◌, max, List, [], ◌∷◌, map, reverse, Option, Some, None, option_to_list}
use Rattle.lsm_below.specs.Entries.{Entry}
use Rattle.lsm_model.specs.Journal.{Event}
use Rattle.lsm_model.specs.Views.{SuperVersion as Shown}
use Rattle.lsm_model.specs.Steps.{State}
use Rattle.lsm_versions.specs.declared.config.Config.{Config}
use Rattle.lsm_parts.specs.declared.version.super_version.SuperVersion.{SuperVersion}
use Rattle.lsm_memtable.specs.Memtables.{SeenMemtable, new_memtable}
use Rattle.lsm_tables.specs.Tables.{SeenTable}
use Rattle.lsm_flush.specs.Jobs.{SeenOpen}
use Rattle.lsm_compaction.specs.OpenMerges.{SeenMerges, no_merges}
use Rattle.lsm_versions.specs.Levels.{SeenVersion, empty_levels, placed_of}
use Rattle.lsm_parts.specs.History.{SeenHistory, first_version, rotated}
use Rattle.lsm_parts.specs.Held.{entries_of, put_first, put_all_first}

-- a tree: its configuration, its memtables, the active one first, its super versions, the ids and job numbers that it draws
-- next, the moment at which tables are made, its counters, its open flush, the version of a commit of unknown outcome, and
-- its open merges
pub record Core : Type 0 where
  pub config : Config
  pub memtables : List SeenMemtable
  pub history : SeenHistory
  pub next_memtable : ℕ
  pub next_table : ℕ
  pub next_job : ℕ
  pub moment : ℕ
  pub seqno : ℕ
  pub visible_seqno : ℕ
  pub flush : Option SeenOpen
  pub lost : Option SeenVersion
  pub merges : SeenMerges

-- a tree beside its store
pub record Seen (S : Type 0) : Type 0 where
  pub store : S
  pub core : Core

-- a super version as the theory sees it: sealed memtables from the newest, tables level by level
abbrev pub shown_as : SuperVersion → Shown
shown_as sv = record { number = sv.seqno; active = sv.active_memtable; sealed = reverse sv.sealed_memtables; tables = placed_of sv.version.levels }

-- the latest super version, as the theory sees it
abbrev pub latest_of : Core → Shown
latest_of c = shown_as c.history.latest

-- the older ones, newest first
abbrev pub older_of : Core → List Shown
older_of c = map shown_as c.history.older

-- the theory's state after a journal
abbrev pub state_of : List Event → Core → State
state_of journal c = record { journal = journal; mems = entries_of c.memtables; latest = latest_of c; older = older_of c }

-- ---- what stands on the disk

-- the versions that opening may find: the latest one, and that of a commit of unknown outcome
abbrev pub versions_left : Core → List SeenVersion
versions_left c = c.history.latest.version ∷ option_to_list c.lost

-- the tables that were written for an open flush
abbrev pub written_by : Option SeenOpen → List SeenTable
written_by None = []
written_by (Some f) = f.written

abbrev pub written_of : Core → List SeenTable
written_of c = written_by c.flush

-- ---- a tree that opens

-- a tree as it opens with a version: its memtable is empty, and nothing older is there
abbrev pub opened_core : Config → SeenVersion → ℕ → Core
opened_core config version next_table = record { config = config; memtables = new_memtable 0 ∷ []; history = record { latest = first_version version; older = [] }; next_memtable = 1; next_table = next_table; next_job = 0; moment = 0; seqno = config.seqno; visible_seqno = config.visible_seqno; flush = None; lost = None; merges = no_merges }

-- a new tree: one empty memtable, and a version without tables
abbrev pub fresh_core : Config → Core
fresh_core config = opened_core config (record { id = 0; log_from = 0; levels = empty_levels }) 0

-- ---- a tree that is written to

-- the tree after a write: the entry is in the active memtable, and all else is as it was
abbrev pub written_core : Entry → Core → Core
written_core e c = record c { memtables = put_first e c.memtables }

-- the tree after several writes
abbrev pub written_all : List Entry → Core → Core
written_all es c = record c { memtables = put_all_first es c.memtables }

-- the next sequence number is used, and visible
abbrev pub drawn_core : Core → Core
drawn_core c = record c { seqno = c.seqno + 1; visible_seqno = max c.visible_seqno (c.seqno + 1) }

-- the tree after a rotation
abbrev pub rotated_core : Core → Core
rotated_core c = record c { memtables = new_memtable c.next_memtable ∷ c.memtables; history = record { latest = rotated c.next_memtable c.history.latest; older = c.history.older }; next_memtable = c.next_memtable + 1 }
