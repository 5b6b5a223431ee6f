-- Foreign names are none that count.
use Rattle.std.proofs.Common.{◌≡◌, ℕ, ◌<◌, ◌^◌, List, sym, ◌∙◌, codes, refl}
use Rattle.std.specs.List.{AllByRecursion}
use Rattle.lsm_below.specs.Each.{each_weaker}
use Rattle.lsm_store.specs.World.{World}
use Rattle.lsm_tables.specs.Tables.{SeenTable}
use Rattle.lsm_versions.specs.Levels.{SeenVersion, all_of}
use Rattle.lsm_manifest.specs.declared.kinds.NameKind.TheVariants.{VersionFile, TableFile, Refused, Other}
use Rattle.lsm_manifest.specs.Names.{version_name, table_name}
use Rattle.lsm_manifest.specs.Kinds.{kind_of}
use Rattle.lsm_commit.specs.Stored.{IsTableOnDisk, IsWhole, IsStored}
use Rattle.lsm_commit.specs.Foreign.{IsForeign, KeepsOwn, ChangesForeign, Spares}
use Rattle.lsm_commit.proofs.Images.{Untouched, spared}

-- what is asked of a tree's names
pub record AreOfKinds : Type 0 where
  pub version_kind : (i : ℕ) → i < 2 ^ 64 → kind_of (version_name i) ≡ VersionFile
  pub table_kind : (i : ℕ) → i < 2 ^ 64 → kind_of (table_name i) ≡ TableFile i

older_kind : kind_of (codes "version") ≡ VersionFile
unfolding kind_of
older_kind = refl

module _ (kinds : AreOfKinds) where
  no_version_file : (i : ℕ) → i < 2 ^ 64 → IsForeign (version_name i) → ⊥
  no_version_file i small foreign = let e : VersionFile ≡ Other = sym (kinds.version_kind i small) ∙ foreign.other in absurd (cc e)

  no_table_file : (t : SeenTable) → t.id < 2 ^ 64 → IsForeign (table_name t.id) → ⊥
  no_table_file t small foreign = let e : TableFile t.id ≡ Other = sym (kinds.table_kind t.id small) ∙ foreign.other in absurd (cc e)

  no_older : IsForeign (codes "version") → ⊥
  no_older foreign = let e : VersionFile ≡ Other = sym older_kind ∙ foreign.other in absurd (cc e)

  no_refused : (n : List ℕ) → kind_of n ≡ Refused → IsForeign n → ⊥
  no_refused n refused foreign = let e : Refused ≡ Other = sym refused ∙ foreign.other in absurd (cc e)

  no_tables : (w : World) (tables : List SeenTable) → AllByRecursion (IsTableOnDisk w) tables → AllByRecursion (λ t. IsForeign (table_name t.id) → ⊥) tables
  no_tables w = each_weaker (IsTableOnDisk w) (λ t. IsForeign (table_name t.id) → ⊥) (λ t on. no_table_file t on.id)

  untouched : (w : World) (versions : List SeenVersion) (tables : List SeenTable) → IsStored w versions tables → Untouched IsForeign versions tables
  untouched w versions tables stored = record {
    current = λ foreign. foreign.not_current refl;
    files = each_weaker (IsWhole w) (λ v. IsForeign (version_name v.id) → ⊥) (λ v whole. no_version_file v.id whole.id) versions stored.whole;
    named = each_weaker (IsWhole w) (λ v. AllByRecursion (λ t. IsForeign (table_name t.id) → ⊥) (all_of v.levels)) (λ v whole. no_tables w (all_of v.levels) whole.tables) versions stored.whole;
    unnamed = no_tables w tables stored.written;
    no_version = no_older;
    in_tables = no_refused;
  }

  pub foreign_spare : (old new : World) → ChangesForeign old new → Spares old new
  foreign_spare old new changes versions tables stored = spared IsForeign old new (KeepsOwn old) changes.may changes.leaves (λ image keeps. keeps) versions tables stored (untouched old versions tables stored)
