-- What is cleaned up after a commit: super versions that no kept snapshot reads, and memtables that none of the others names.
use Rattle.std.specs.Prelude.{◌≡◌, ◌⊎◌, ◌≤◌, ◌<◌, ◌^◌, ℕ, Bool, true, false, List, ◌++◌, None, drop, length, Result, Ok, Err, IfErr}
use Rattle.std.specs.List.{AllByRecursion}
use Rattle.std.proofs.Common.{arith, inl}
use Rattle.lsm_below.specs.declared.error.Error.{Error}
use Rattle.lsm_below.specs.declared.error.Error.TheVariants.{Store, CommitUnknown, AfterCommit}
use Rattle.lsm_store.specs.World.{World}
use Rattle.lsm_tables.specs.Tables.{SeenTable}
use Rattle.lsm_model.specs.Steps.{among}
use Rattle.lsm_versions.specs.Levels.{all_of}
use Rattle.lsm_manifest.specs.Names.{table_name, version_name}
use Rattle.lsm_commit.specs.Causes.{HasFailed}
use Rattle.lsm_parts.specs.History.{SeenHistory, oldest, versions_of}
use Rattle.lsm_parts.specs.Held.{from_id}
use Rattle.lsm_parts.specs.Maintenance.{Forgets}
use Rattle.lsm_state.specs.Kept.{least_named}
use Rattle.lsm_state.specs.Core.{Core, written_of}

-- the id of the oldest memtable that a super version names
abbrev pub oldest_named : SeenHistory → ℕ
oldest_named h = least_named (oldest h.latest h.older)

-- whether maintenance came to its end, as its answer
abbrev pub answer_of : Bool → Result Unit Error
answer_of true = Ok tt
answer_of false = Err Store

-- maintenance at a watermark, to its end or not, and then only the memtables that a super version names are held
pub record Cleans (w : ℕ) (whole : Bool) (old new : Core) : Type 0 where
  pub history : Forgets w (answer_of whole) old.history new.history
  pub memtables : new.memtables ≡ from_id (oldest_named new.history) old.memtables
  pub rest : new ≡ record old { memtables = new.memtables; history = new.history }

-- ---- files

-- the files of the tables of these ids are absent
abbrev pub AreAbsent : World → List ℕ → Type 0
AreAbsent w ids = (i : ℕ) → among ids i ≡ true → w.gives (table_name i) ≡ None

-- no table has this id
abbrev pub IsUnnamed : List SeenTable → ℕ → Type 0
IsUnnamed tables i = AllByRecursion (λ t. t.id ≡ i → ⊥) tables

-- after a commit no file is left of the version of a super version that went
abbrev pub LeavesNoVersions : World → SeenHistory → SeenHistory → Type 0
LeavesNoVersions w old new = AllByRecursion (λ sv. w.gives (version_name sv.version.id) ≡ None) (drop (length new.older) (versions_of old))

-- nor of a table of the latest version that the new one doesn't name
pub record LeavesNoFiles (w : World) (old new : SeenHistory) : Type 0 where
  pub tables : AllByRecursion (λ t. IsUnnamed (all_of new.latest.version.levels) t.id → w.gives (table_name t.id) ≡ None) (all_of old.latest.version.levels)
  pub versions : LeavesNoVersions w old new

-- the ids of all tables of a tree are below this one
abbrev pub AreDrawnBelow : ℕ → Core → Type 0
AreDrawnBelow first c = AllByRecursion (λ t. t.id < first) (written_of c ++ all_of c.history.latest.version.levels)

-- no file is left of the tables of these ids, or a call of the store failed meanwhile
abbrev pub RemovesTables : List ℕ → World → World → Type 0
RemovesTables ids old new = AreAbsent new ids ⊎ HasFailed old new

-- no file is left of the tables with ids from the first on and below the next one, or a call of the store failed meanwhile
abbrev pub RemovesDrawn : ℕ → ℕ → World → World → Type 0
RemovesDrawn first next old new = ((i : ℕ) → first ≤ i → i < next → new.gives (table_name i) ≡ None) ⊎ HasFailed old new

-- refused, a call leaves no file of a table under an id that it drew, unless a call of the store failed, or a version may name it
abbrev pub RemovesRefused : {T : Type 0} → Result T Error → Core → Core → World → World → Type 0
RemovesRefused r old new w v = old.next_table < 2 ^ 63 → IfErr r (λ e. (e ≡ CommitUnknown → ⊥) → (e ≡ AfterCommit → ⊥) → RemovesDrawn old.next_table new.next_table w v)

-- where no id was drawn, none is to be removed
pub none_drawn : (n m : ℕ) (w v : World) → m ≡ n → RemovesDrawn n m w v
none_drawn n m w v same = inl (λ i from below. absurd (omega (arith, same, from, below)))
