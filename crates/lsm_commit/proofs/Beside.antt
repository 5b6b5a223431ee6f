-- Files of tables that come or go leave what is stored of others.
use Rattle.std.proofs.Common.{◌≡◌, ◌≢◌, ℕ, ◌<◌, ◌≤◌, ◌^◌, true, false, List, [], ◌∷◌, get_or, refl, sym, ap, ◌∙◌, subst, codes, arith}
use Rattle.std.specs.List.{AllByRecursion}
use Rattle.std.proofs.lemmas.Bool.{both_ways}
use Rattle.lsm_below.specs.Each.{each_both, each_weaker}
use Rattle.lsm_store.specs.World.{World, LeavesOnly}
use Rattle.lsm_store.specs.Synced.{IsBeside, KeepsOthers}
use Rattle.lsm_tables.specs.Tables.{SeenTable}
use Rattle.lsm_model.specs.Steps.{among}
use Rattle.lsm_versions.specs.Levels.{SeenVersion, all_of}
use Rattle.lsm_manifest.specs.declared.kinds.NameKind.TheVariants.{TableFile}
use Rattle.lsm_manifest.specs.Names.{current_name, version_name, table_name}
use Rattle.lsm_manifest.specs.Kinds.{kind_of}
use Rattle.lsm_commit.specs.Stored.{IsTableOnDisk, AreOnDisk, IsWhole, IsStored}
use Rattle.lsm_commit.specs.Writing.{IsElsewhere, KeepsElsewhere, IsKeptElsewhere, KeepsStored}
use Rattle.lsm_commit.specs.Commits.{AreOthers, SparesTables}
use Rattle.lsm_commit.proofs.Images.{Untouched, spared}

-- the name is that of a table of such an id
abbrev is_of : (ℕ → Type 0) → List ℕ → Type 0
is_of P n = (i : ℕ) × P i × (i < 2 ^ 64) × (n ≡ table_name i)

-- no table has such an id
abbrev HaveNone : (ℕ → Type 0) → List SeenTable → Type 0
HaveNone P tables = AllByRecursion (λ t. P t.id → ⊥) tables

letters_apart : (i : ℕ) → get_or (codes "version") 0 0 ≡ get_or (table_name i) 0 0 → ⊥
letters_apart i e = omega arith

module _ (apart : (i j : ℕ) → i < 2 ^ 64 → j < 2 ^ 64 → table_name i ≡ table_name j → i ≡ j) (no_version : (i j : ℕ) → table_name i ≢ version_name j) (not_current : (i : ℕ) → table_name i ≢ current_name) (kind : (i : ℕ) → i < 2 ^ 64 → kind_of (table_name i) ≡ TableFile i) where
  module _ (P : ℕ → Type 0) (old : World) where
    tables_free : (tables : List SeenTable) → AreOnDisk old tables → HaveNone P tables → AllByRecursion (λ t. is_of P (table_name t.id) → ⊥) tables
    tables_free tables on none = each_both (IsTableOnDisk old) (λ t. P t.id → ⊥) (λ t. is_of P (table_name t.id) → ⊥) (λ t is no found. no (subst P (sym (apart t.id found.0 is.id found.2 found.3)) found.1)) tables on none

    files_free : (versions : List SeenVersion) → AllByRecursion (λ v. is_of P (version_name v.id) → ⊥) versions
    files_free [] = tt
    files_free (v ∷ versions) = (λ found. no_version found.0 v.id (sym found.3), files_free versions)

    named_free : (versions : List SeenVersion) → AllByRecursion (IsWhole old) versions → AllByRecursion (λ v. HaveNone P (all_of v.levels)) versions → AllByRecursion (λ v. AllByRecursion (λ t. is_of P (table_name t.id) → ⊥) (all_of v.levels)) versions
    named_free versions whole none = each_both (IsWhole old) (λ v. HaveNone P (all_of v.levels)) (λ v. AllByRecursion (λ t. is_of P (table_name t.id) → ⊥) (all_of v.levels)) (λ v is no. tables_free (all_of v.levels) is.tables no) versions whole none

    untouched : (versions : List SeenVersion) (tables : List SeenTable) → IsStored old versions tables → AllByRecursion (λ v. HaveNone P (all_of v.levels)) versions → HaveNone P tables → Untouched (is_of P) versions tables
    untouched versions tables stored named unnamed = record {
      current = λ found. not_current found.0 (sym found.3);
      files = files_free versions;
      named = named_free versions stored.whole named;
      unnamed = tables_free tables stored.written unnamed;
      no_version = λ found. letters_apart found.0 (ap (λ (l : List ℕ). get_or l 0 0) found.3);
      in_tables = λ n refused found. let is = sym (kind found.0 found.2) ∙ (ap kind_of (sym found.3) ∙ refused) in absurd (cc is);
    }

  pub new_tables_spare : (first : ℕ) (old new : World) → KeepsElsewhere first old new → LeavesOnly old new (IsKeptElsewhere first old) → KeepsStored first old new
  new_tables_spare first old new keeps leaves versions tables stored below unnamed =
      spared (is_of (λ i. first ≤ i)) old new (IsKeptElsewhere first old) (λ n c out may. (keeps.may n c (elsewhere n out)).0 may) leaves (λ image has n out. has n (elsewhere n out)) versions tables stored
      (untouched (λ i. first ≤ i) old versions tables stored (each_weaker (λ v. AllByRecursion (λ t. t.id < first) (all_of v.levels)) (λ v. HaveNone (λ i. first ≤ i) (all_of v.levels)) (λ v lesser. none_new (all_of v.levels) lesser) versions below) (none_new tables unnamed))
    where
      elsewhere : (n : List ℕ) → (is_of (λ i. first ≤ i) n → ⊥) → IsElsewhere first n
      elsewhere n out i le small e = out (i, le, small, e)

      none_new : (tables : List SeenTable) → AllByRecursion (λ t. t.id < first) tables → HaveNone (λ i. first ≤ i) tables
      none_new tables lesser = each_weaker (λ t. t.id < first) (λ t. first ≤ t.id → ⊥) (λ t (lt : t.id < first) (le : first ≤ t.id). omega arith) tables lesser

  pub removed_table_spares : (id : ℕ) (old new : World) → id < 2 ^ 64 → KeepsOthers (table_name id) old new → LeavesOnly old new (IsBeside (table_name id) old) → (ids : List ℕ) → among ids id ≡ true → SparesTables ids old new
  removed_table_spares id old new small keeps leaves ids is versions tables stored named unnamed =
      spared (is_of (λ i. i ≡ id)) old new (IsBeside (table_name id) old) (λ n c out may. (keeps.may n c (other n out)).0 may) leaves (λ image has n out. has n (other n out)) versions tables stored
      (untouched (λ i. i ≡ id) old versions tables stored (each_weaker (λ v. AreOthers ids (all_of v.levels)) (λ v. HaveNone (λ i. i ≡ id) (all_of v.levels)) (λ v others. not_it (all_of v.levels) others) versions named) (not_it tables unnamed))
    where
      other : (n : List ℕ) → (is_of (λ i. i ≡ id) n → ⊥) → n ≢ table_name id
      other n out e = out (id, refl, small, e)

      not_it : (tables : List SeenTable) → AreOthers ids tables → HaveNone (λ i. i ≡ id) tables
      not_it tables others = each_weaker (λ t. among ids t.id ≡ false) (λ t. t.id ≡ id → ⊥) (λ t not same. both_ways (among ids id) (ap (among ids) (sym same) ∙ not) is) tables others
