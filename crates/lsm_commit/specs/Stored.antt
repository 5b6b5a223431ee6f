-- What a crash leaves of the files of an open tree.
use Rattle.std.specs.Prelude.{◌≡◌, ◌↔◌, ℕ, ◌<◌, ◌^◌, List, Option, Some, None, codes}
use Rattle.std.specs.List.{AllByRecursion}
use Rattle.lsm_below.specs.Members.{IsIn}
use Rattle.lsm_store.specs.World.{Image, World, LeavesOnly}
use Rattle.lsm_tables.specs.Image.{IsImageOf, image}
use Rattle.lsm_tables.specs.Tables.{SeenTable}
use Rattle.lsm_versions.specs.Levels.{SeenVersion, all_of, AreRuns}
use Rattle.lsm_manifest.specs.declared.kinds.NameKind.TheVariants.{Refused}
use Rattle.lsm_manifest.specs.Names.{current_name, version_name, table_name}
use Rattle.lsm_manifest.specs.Kinds.{kind_of}
use Rattle.lsm_manifest.specs.Spelling.{IsFileFrom}
use Rattle.lsm_manifest.specs.Versions.{named_levels, log_from_in}
use Rattle.lsm_manifest.specs.Persist.{naming}
use Rattle.lsm_manifest.specs.Standing.{StandsFor}
use Rattle.lsm_manifest.specs.Opening.{ReadsFrom}
pub use Rattle.lsm_manifest.specs.Told.{CountsFaults}

-- ---- what is on the disk

-- a crash leaves of the name this content alone
abbrev pub IsOnDisk : World → List ℕ → List ℕ → Type 0
IsOnDisk w name bytes = (c : Option (List ℕ)) → w.may name c → c ≡ Some bytes

-- the content of a table's file
abbrev pub table_file : SeenTable → List ℕ
table_file t = image t.created_at t.entries

-- the file of a table is on the disk, and reads as the table
pub record IsTableOnDisk (w : World) (t : SeenTable) : Type 0 where
  pub id : t.id < 2 ^ 64
  pub reads : IsImageOf t.created_at t.entries (table_file t)
  pub file : IsOnDisk w (table_name t.id) (table_file t)

abbrev pub AreOnDisk : World → List SeenTable → Type 0
AreOnDisk w tables = AllByRecursion (IsTableOnDisk w) tables

-- the file of a version is on the disk with these bytes, and reads as the version: it tells from which number the version
-- reads a log, or the version's tables do
pub record IsFileOf (w : World) (v : SeenVersion) (bytes : List ℕ) : Type 0 where
  pub from : Option ℕ
  pub log_from : v.log_from ≡ log_from_in from v.levels
  pub reads : IsFileFrom from (named_levels v.levels) bytes
  pub on_disk : IsOnDisk w (version_name v.id) bytes

-- the file of a version and those of its tables are on the disk, and read as the version
pub record IsWhole (w : World) (v : SeenVersion) : Type 0 where
  pub id : v.id < 2 ^ 64
  pub bytes : List ℕ
  pub file : IsFileOf w v bytes
  pub runs : AreRuns v.levels
  pub tables : AreOnDisk w (all_of v.levels)

-- a content of `current` that names the version by the bytes of its file
pub record IsNaming (w : World) (v : SeenVersion) (c : Option (List ℕ)) : Type 0 where
  pub bytes : List ℕ
  pub file : IsFileOf w v bytes
  pub named : c ≡ Some (naming v.id bytes)

-- `current` names one of these versions, which are whole; these tables, which no version names yet, are on the disk; and no
-- crash brings back a name that opening refuses
pub record IsStored (w : World) (versions : List SeenVersion) (unnamed : List SeenTable) : Type 0 where
  pub current : (c : Option (List ℕ)) → w.may current_name c → (v : SeenVersion) × IsIn v versions × IsNaming w v c
  pub whole : AllByRecursion (IsWhole w) versions
  pub written : AreOnDisk w unnamed
  pub no_version : (c : Option (List ℕ)) → w.may (codes "version") c → c ≡ None
  pub in_tables : (n : List ℕ) (c : Option (List ℕ)) → kind_of n ≡ Refused → w.may n c → c ≡ None

-- ---- what stays, and what a crash leaves

-- of the names of this kind nothing has changed
pub record Keeps (P : List ℕ → Type 0) (old new : World) : Type 0 where
  pub may : (n : List ℕ) (c : Option (List ℕ)) → P n → new.may n c ↔ old.may n c
  pub gives : (n : List ℕ) → P n → new.gives n ≡ old.gives n

-- the image stands for one of these versions, and tells from which number that one reads a log
abbrev pub HoldsOneOf : List SeenVersion → Image → Type 0
HoldsOneOf versions left = (v : SeenVersion) × IsIn v versions × StandsFor left v.id (named_levels v.levels) v.levels × ReadsFrom left v

-- at each moment since then a crash leaves one of these versions
abbrev pub Leaves : World → World → List SeenVersion → Type 0
Leaves old new versions = LeavesOnly old new (HoldsOneOf versions)

-- one list's versions are among another's
abbrev pub AreAmong : List SeenVersion → List SeenVersion → Type 0
AreAmong some all = AllByRecursion (λ v. IsIn v all) some
