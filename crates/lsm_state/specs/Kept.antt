-- What always holds of a tree.
use Rattle.std.specs.Prelude.{◌≡◌, ℕ, ◌+◌, ◌-◌, ◌^◌, ◌<◌, ◌≤◌, true, List, [], ◌∷◌, ◌++◌, Option}
use Rattle.std.specs.List.{AllByRecursion}
use Rattle.lsm_tables.specs.Cutting.{IsWritable}
use Rattle.lsm_versions.specs.Levels.{all_of, HasOwnIds}
use Rattle.lsm_flush.specs.Jobs.{SeenOpen}
use Rattle.lsm_compaction.specs.OpenMerges.{AreOpen}
use Rattle.lsm_memtable.specs.Memtables.{SeenMemtable}
use Rattle.lsm_parts.specs.declared.version.super_version.SuperVersion.{SuperVersion}
use Rattle.lsm_parts.specs.History.{SeenHistory, versions_of, AreLaid}
use Rattle.lsm_parts.specs.Held.{HasFirst, ids_of, FallFrom, is_among}
use Rattle.lsm_state.specs.Core.{Core, written_by}

-- the ids that a super version names are among those that are held
abbrev pub NamesHeld : List ℕ → SuperVersion → Type 0
NamesHeld ids sv = AllByRecursion (λ i. is_among ids i ≡ true) (sv.active_memtable ∷ sv.sealed_memtables)

-- the same of every super version
abbrev pub NameHeld : List ℕ → List SuperVersion → Type 0
NameHeld ids versions = AllByRecursion (NamesHeld ids) versions

-- each of these ids is above the one before it, and the first one not below this one
abbrev pub RiseFrom : ℕ → List ℕ → Type 0
RiseFrom n [] = Unit {0}
RiseFrom n (i ∷ ids) = (n ≤ i) × RiseFrom (i + 1) ids

-- the ids of the memtables that a super version names, the oldest one first
abbrev pub named_by : SuperVersion → List ℕ
named_by sv = sv.sealed_memtables ++ sv.active_memtable ∷ []

-- the first of some ids, or this one
abbrev pub first_or : ℕ → List ℕ → ℕ
first_or a [] = a
first_or a (i ∷ ids) = i

-- the id of the oldest memtable that a super version names
abbrev pub least_named : SuperVersion → ℕ
least_named sv = first_or sv.active_memtable sv.sealed_memtables

-- super versions, newest first: each names memtables by rising ids, and its oldest one isn't newer than that of the super
-- version before it, or than this one
abbrev pub NameOlder : ℕ → List SuperVersion → Type 0
NameOlder n [] = Unit {0}
NameOlder n (sv ∷ older) = (least_named sv ≤ n) × RiseFrom (least_named sv) (named_by sv) × NameOlder (least_named sv) older

-- what a tree keeps of the ids of its memtables
pub record KeepsIds (memtables : List SeenMemtable) (history : SeenHistory) (next : ℕ) : Type 0 where
  -- the active memtable is the first one
  pub active : HasFirst memtables (λ m. m.id ≡ history.latest.active_memtable)
  -- ids fall from the newest memtable to the oldest, and all are below the next one
  pub fall : FallFrom next (ids_of memtables)
  -- each memtable that a super version names is held
  pub held : NameHeld (ids_of memtables) (versions_of history)
  -- older super versions name older memtables
  pub older : NameOlder history.latest.active_memtable (versions_of history)

-- what a tree keeps of the ids of its tables, those of its open flush among them, and of its versions
pub record KeepsTables (flush : Option SeenOpen) (history : SeenHistory) (next : ℕ) : Type 0 where
  -- no id stands twice
  pub own_ids : HasOwnIds (written_by flush ++ all_of history.latest.version.levels)
  -- each is below the next one, as long as there is one
  pub below : next < 2 ^ 64 - 1 → AllByRecursion (λ t. t.id < next) (written_by flush ++ all_of history.latest.version.levels)
  -- the version of an older super version has a lesser id
  pub aged : AllByRecursion (λ sv. sv.version.id < history.latest.version.id) history.older

-- what holds of every tree
pub record IsKeptTree (c : Core) : Type 0 where
  -- the entries of each memtable stand in order, and fit files
  pub writable : AllByRecursion (λ m. IsWritable m.entries) c.memtables
  -- ids of memtables
  pub ids : KeepsIds c.memtables c.history c.next_memtable
  -- ids of tables and versions
  pub tables : KeepsTables c.flush c.history c.next_table
  -- each version has seven levels, whose tables are laid out
  pub laid : AreLaid (versions_of c.history)
  -- open merges
  pub merges : AreOpen c.merges
