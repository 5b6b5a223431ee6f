-- What a commit makes of a tree's files, and what removals of files leave of them.
use Rattle.std.specs.Prelude.{◌≡◌, ◌≢◌, ℕ, true, false, List, [], ◌∷◌, Option, Some, Result, OnOk, OnErr, IsErrOf, ◌⊎◌}
use Rattle.std.specs.List.{AllByRecursion}
use Rattle.lsm_below.specs.declared.error.Error.{Error}
use Rattle.lsm_below.specs.declared.error.Error.TheVariants.{CommitUnknown}
use Rattle.lsm_store.specs.World.{World}
use Rattle.lsm_tables.specs.Tables.{SeenTable}
use Rattle.lsm_model.specs.Steps.{among}
use Rattle.lsm_versions.specs.Levels.{SeenVersion, all_of}
use Rattle.lsm_manifest.specs.Names.{current_name, table_name}
use Rattle.lsm_manifest.specs.Versions.{file_of}
use Rattle.lsm_manifest.specs.Persist.{naming}
use Rattle.lsm_commit.specs.Stored.{IsFileOf, IsStored, AreOnDisk, Leaves}

-- the version's file is the one that this crate writes of it, and `current` names the version by it
pub record IsCommitted (w : World) (v : SeenVersion) : Type 0 where
  pub file : IsFileOf w v (file_of v)
  pub current : (c : Option (List ℕ)) → w.may current_name c → c ≡ Some (naming v.id (file_of v))

-- after Ok the next version alone is stored, under the file that this crate writes of it, and where the outcome is unknown both
-- are; a crash meanwhile leaves either of them, and where the commit was refused without doubt only the old one
pub record Stores (latest next : SeenVersion) (written : List SeenTable) (old new : World) (r : Result Unit Error) : Type 0 where
  pub ok : OnOk r (IsStored new (next ∷ []) written)
  pub committed : OnOk r (IsCommitted new next)
  pub unknown : IsErrOf r CommitUnknown → IsStored new (latest ∷ (next ∷ [])) written
  pub doubted : IsErrOf r CommitUnknown → IsFileOf new next (file_of next)
  pub refused : OnErr r (IsErrOf r CommitUnknown ⊎ (IsStored new (latest ∷ []) written × Leaves old new (latest ∷ [])))
  pub leaves : Leaves old new (latest ∷ (next ∷ []))

-- whatever version is stored, it gives way to the next one, whose tables are on the disk
abbrev pub CommitsStored : SeenVersion → World → World → Result Unit Error → Type 0
CommitsStored next old new r = (latest : SeenVersion) (written : List SeenTable) → IsStored old (latest ∷ []) written → next.id ≢ latest.id → AreOnDisk old (all_of next.levels) → Stores latest next written old new r

-- whatever versions with other ids are stored, they stay so, and a crash meanwhile leaves one of them
abbrev pub SparesStored : ℕ → World → World → Type 0
SparesStored id old new = (versions : List SeenVersion) (written : List SeenTable) → IsStored old versions written → AllByRecursion (λ v. v.id ≢ id) versions → IsStored new versions written × Leaves old new versions

-- the name of the file of no table of these ids
abbrev pub IsNoneOf : List ℕ → List ℕ → Type 0
IsNoneOf ids n = (i : ℕ) → among ids i ≡ true → n ≢ table_name i

-- no table has one of these ids
abbrev pub AreOthers : List ℕ → List SeenTable → Type 0
AreOthers ids tables = AllByRecursion (λ t. among ids t.id ≡ false) tables

-- whatever versions and written tables are stored, none of them with a table of these ids, they stay so, and a crash meanwhile
-- leaves one of the versions
abbrev pub SparesTables : List ℕ → World → World → Type 0
SparesTables ids old new = (versions : List SeenVersion) (written : List SeenTable) → IsStored old versions written → AllByRecursion (λ v. AreOthers ids (all_of v.levels)) versions → AreOthers ids written → IsStored new versions written × Leaves old new versions
