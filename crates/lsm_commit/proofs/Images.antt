-- What an image holds where the names that count have what they could.
use Rattle.std.proofs.Common.{◌≡◌, ℕ, ◌<◌, ◌^◌, List, [], ◌∷◌, map, Option, Some, refl, subst, codes}
use Rattle.std.specs.List.{AllByRecursion}
use Rattle.std.proofs.lemmas.List.Concat.{flat_map-cons}
use Rattle.lsm_below.specs.Each.{each_append, each_left, each_right, each_weaker, each_both}
use Rattle.lsm_below.specs.Members.{IsIn, each_in}
use Rattle.lsm_below.specs.Optimizes.{tables_of}
use Rattle.lsm_store.specs.World.{Image, World, IsImage, LeavesOnly}
use Rattle.lsm_store.specs.Moments.{started, weakened}
use Rattle.lsm_tables.specs.Image.{IsImageOf}
use Rattle.lsm_tables.specs.Tables.{SeenTable}
use Rattle.lsm_versions.specs.Levels.{Levels, SeenVersion, all_of, AreRuns}
use Rattle.lsm_manifest.specs.declared.kinds.NameKind.TheVariants.{Refused}
use Rattle.lsm_manifest.specs.Names.{current_name, version_name, table_name}
use Rattle.lsm_manifest.specs.Kinds.{kind_of}
use Rattle.lsm_manifest.specs.Spelling.{IsFileFrom}
use Rattle.lsm_manifest.specs.Versions.{named_table, named_runs, named_levels, log_from_in}
use Rattle.lsm_manifest.specs.Persist.{naming}
use Rattle.lsm_manifest.specs.Standing.{Pairwise, IsTableAt, AreTablesAt, HasGoodNames, StandsFor}
use Rattle.lsm_manifest.specs.Opening.{ReadsFrom}
use Rattle.lsm_commit.specs.Stored.{table_file, IsTableOnDisk, AreOnDisk, IsFileOf, IsWhole, IsNaming, IsStored, HoldsOneOf, Leaves}

-- ---- tables, run by run and level by level

-- what holds of each item of lists holds of each list's items
pub each_list : {A : Type 0} (P : A → Type 0) (lists : List (List A)) → AllByRecursion P (tables_of lists) → AllByRecursion (AllByRecursion P) lists
each_list P [] h = tt
each_list {A} P (l ∷ lists) h =
    let all = subst (λ (xs : List A). AllByRecursion P xs) (flat_map-cons (λ (x : List A). x) l lists) h in
    (each_left P l (tables_of lists) all, each_list P lists (each_right P l (tables_of lists) all))

-- and what holds of each list's items holds of each item of the lists
pub each_joined : {A : Type 0} (P : A → Type 0) (lists : List (List A)) → AllByRecursion (AllByRecursion P) lists → AllByRecursion P (tables_of lists)
each_joined P [] h = tt
each_joined P (l ∷ lists) h = each_append P l (tables_of lists) h.0 (each_joined P lists h.1)

paired : {A B : Type 0} (R : A → B → Type 0) (f : B → A) (xs : List B) → AllByRecursion (λ x. R (f x) x) xs → Pairwise R (map f xs) xs
paired R f [] h = tt
paired R f (x ∷ xs) h = (h.0, paired R f xs h.1)

-- the file of a table is in the image, and reads as the table
pub record IsTableIn (image : Image) (t : SeenTable) : Type 0 where
  pub file : image (table_name t.id) ≡ Some (table_file t)
  pub reads : IsImageOf t.created_at t.entries (table_file t)

table_at : (image : Image) (t : SeenTable) → IsTableIn image t → IsTableAt image (named_table t) t
table_at image t h = record { id = refl; bytes = table_file t; file = h.file; summed = refl; reads = h.reads }

tables_at : (image : Image) (levels : Levels) → AllByRecursion (IsTableIn image) (all_of levels) → AreTablesAt image (named_levels levels) levels
tables_at image levels h =
    let runs = each_list (AllByRecursion (IsTableIn image)) levels (each_list (IsTableIn image) (tables_of levels) h) in
    paired (Pairwise (Pairwise (IsTableAt image))) named_runs levels
    (each_weaker (AllByRecursion (AllByRecursion (IsTableIn image))) (λ l. Pairwise (Pairwise (IsTableAt image)) (named_runs l) l)
    (λ l of_level. paired (Pairwise (IsTableAt image)) (λ r. map named_table r) l
    (each_weaker (AllByRecursion (IsTableIn image)) (λ r. Pairwise (IsTableAt image) (map named_table r) r)
    (λ r of_run. paired (IsTableAt image) named_table r (each_weaker (IsTableIn image) (λ t. IsTableAt image (named_table t) t) (table_at image) r of_run)) l of_level)) levels runs)

-- the image stands for the version, and tells from which number it reads a log
abbrev pub Holds : Image → SeenVersion → Type 0
Holds image v = StandsFor image v.id (named_levels v.levels) v.levels × ReadsFrom image v

-- so it does for a version that it names by the bytes of its file, whose tables are whole
pub holds : (image : Image) (v : SeenVersion) (bytes : List ℕ) (from : Option ℕ) → v.id < 2 ^ 64 → v.log_from ≡ log_from_in from v.levels → IsFileFrom from (named_levels v.levels) bytes → AreRuns v.levels → image current_name ≡ Some (naming v.id bytes) → image (version_name v.id) ≡ Some bytes
    → AllByRecursion (IsTableIn image) (all_of v.levels) → HasGoodNames image → Holds image v
holds image v bytes from small told reads runs current file tables names = (
  record {
    named = record { id_fits = small; bytes = bytes; current = current; version = file; reads = record { from = from; file = reads } };
    tables = tables_at image v.levels tables;
    runs = runs;
    names = names;
  },
  record { from = from; layout = named_levels v.levels; named = record { id_fits = small; bytes = bytes; current = current; version = file; reads = reads }; is = told },
)

-- ---- names that nobody touches

-- none of the names that count has changed
pub record Untouched (changed : List ℕ → Type 0) (versions : List SeenVersion) (tables : List SeenTable) : Type 0 where
  pub current : changed current_name → ⊥
  pub files : AllByRecursion (λ v. changed (version_name v.id) → ⊥) versions
  pub named : AllByRecursion (λ v. AllByRecursion (λ t. changed (table_name t.id) → ⊥) (all_of v.levels)) versions
  pub unnamed : AllByRecursion (λ t. changed (table_name t.id) → ⊥) tables
  pub no_version : changed (codes "version") → ⊥
  pub in_tables : (n : List ℕ) → kind_of n ≡ Refused → changed n → ⊥

module _ (changed : List ℕ → Type 0) (old : World) where
  module _ (image : Image) (has : (n : List ℕ) → (changed n → ⊥) → old.may n (image n)) where
    pub tables_in : (tables : List SeenTable) → AreOnDisk old tables → AllByRecursion (λ t. changed (table_name t.id) → ⊥) tables → AllByRecursion (IsTableIn image) tables
    tables_in tables on free = each_both (IsTableOnDisk old) (λ t. changed (table_name t.id) → ⊥) (IsTableIn image) (λ t is out. record { file = is.file _ (has (table_name t.id) out); reads = is.reads }) tables on free

    pub names_in : (versions : List SeenVersion) (tables : List SeenTable) → IsStored old versions tables → Untouched changed versions tables → HasGoodNames image
    names_in versions tables stored free = record {
      no_version = stored.no_version _ (has (codes "version") free.no_version);
      in_tables = λ n refused. stored.in_tables n _ refused (has n (free.in_tables n refused));
    }

    -- a version that is whole and that `current` names is held
    held_whole : (v : SeenVersion) → IsWhole old v → (changed (version_name v.id) → ⊥) → AllByRecursion (λ t. changed (table_name t.id) → ⊥) (all_of v.levels) → IsNaming old v (image current_name) → HasGoodNames image → Holds image v
    held_whole v whole file tables current names =
        holds image v current.bytes current.file.from whole.id current.file.log_from current.file.reads whole.runs current.named (current.file.on_disk _ (has (version_name v.id) file)) (tables_in (all_of v.levels) whole.tables tables) names

    -- so it is of one that is stored
    pub held_as : (versions : List SeenVersion) (tables : List SeenTable) → IsStored old versions tables → Untouched changed versions tables → (v : SeenVersion) → IsIn v versions → IsNaming old v (image current_name) → Holds image v
    held_as versions tables stored free v among naming =
        held_whole v (each_in (IsWhole old) versions v stored.whole among) (each_in (λ u. changed (version_name u.id) → ⊥) versions v free.files among)
        (each_in (λ u. AllByRecursion (λ t. changed (table_name t.id) → ⊥) (all_of u.levels)) versions v free.named among) naming (names_in versions tables stored free)

    pub held_beside : (versions : List SeenVersion) (tables : List SeenTable) → IsStored old versions tables → Untouched changed versions tables → HoldsOneOf versions image
    held_beside versions tables stored free =
        let named = stored.current _ (has current_name free.current) in
        let held = held_as versions tables stored free named.0 named.1 named.2 in
        (named.0, named.1, held.0, held.1)

  module _ (new : World) (keeps : (n : List ℕ) (c : Option (List ℕ)) → (changed n → ⊥) → new.may n c → old.may n c) where
    pub on_beside : (tables : List SeenTable) → AreOnDisk old tables → AllByRecursion (λ t. changed (table_name t.id) → ⊥) tables → AreOnDisk new tables
    on_beside tables on free = each_both (IsTableOnDisk old) (λ t. changed (table_name t.id) → ⊥) (IsTableOnDisk new) (λ t is out. record { id = is.id; reads = is.reads; file = λ c may. is.file c (keeps (table_name t.id) c out may) }) tables on free

    file_beside : (v : SeenVersion) (bytes : List ℕ) → IsFileOf old v bytes → (changed (version_name v.id) → ⊥) → IsFileOf new v bytes
    file_beside v bytes is free = record { from = is.from; log_from = is.log_from; reads = is.reads; on_disk = λ c may. is.on_disk c (keeps (version_name v.id) c free may) }

    pub naming_beside : (v : SeenVersion) (c : Option (List ℕ)) → IsNaming old v c → (changed (version_name v.id) → ⊥) → IsNaming new v c
    naming_beside v c is free = record { bytes = is.bytes; file = file_beside v is.bytes is.file free; named = is.named }

    pub whole_beside : (v : SeenVersion) → IsWhole old v → (changed (version_name v.id) → ⊥) → AllByRecursion (λ t. changed (table_name t.id) → ⊥) (all_of v.levels) → IsWhole new v
    whole_beside v is file tables = record { id = is.id; bytes = is.bytes; file = file_beside v is.bytes is.file file; runs = is.runs; tables = on_beside (all_of v.levels) is.tables tables }

    wholes_beside : (versions : List SeenVersion) → AllByRecursion (IsWhole old) versions → AllByRecursion (λ v. changed (version_name v.id) → ⊥) versions → AllByRecursion (λ v. AllByRecursion (λ t. changed (table_name t.id) → ⊥) (all_of v.levels)) versions → AllByRecursion (IsWhole new) versions
    wholes_beside [] is files tables = tt
    wholes_beside (v ∷ versions) is files tables = (whole_beside v is.0 files.0 tables.0, wholes_beside versions is.1 files.1 tables.1)

    pub stored_beside : (versions : List SeenVersion) (tables : List SeenTable) → IsStored old versions tables → Untouched changed versions tables → IsStored new versions tables
    stored_beside versions tables stored free = record {
      current = λ c may.
          let named = stored.current c (keeps current_name c free.current may) in
          (named.0, named.1, naming_beside named.0 c named.2 (each_in (λ u. changed (version_name u.id) → ⊥) versions named.0 free.files named.1));
      whole = wholes_beside versions stored.whole free.files free.named;
      written = on_beside tables stored.written free.unnamed;
      no_version = λ c may. stored.no_version c (keeps (codes "version") c free.no_version may);
      in_tables = λ n c refused may. stored.in_tables n c refused (keeps n c (free.in_tables n refused) may);
    }

-- what changes none of the names that count spares what is stored
pub spared : (changed : List ℕ → Type 0) (old new : World) (P : Image → Type 0) → ((n : List ℕ) (c : Option (List ℕ)) → (changed n → ⊥) → new.may n c → old.may n c) → LeavesOnly old new P → ((image : Image) → P image → (n : List ℕ) → (changed n → ⊥) → old.may n (image n))
    → (versions : List SeenVersion) (tables : List SeenTable) → IsStored old versions tables → Untouched changed versions tables → IsStored new versions tables × Leaves old new versions
spared changed old new P keeps leaves has versions tables stored free = (
  stored_beside changed old new keeps versions tables stored free,
  weakened old new P (HoldsOneOf versions) leaves (λ image is. held_beside changed old image (has image is) versions tables stored free),
)

-- where nothing has changed
abbrev nothing : List ℕ → Type 0
nothing n = ⊥

all_free : {A : Type 0} (name : A → List ℕ) (xs : List A) → AllByRecursion (λ x. nothing (name x) → ⊥) xs
all_free name [] = tt
all_free name (x ∷ xs) = (λ h. h, all_free name xs)

all_named_free : (versions : List SeenVersion) → AllByRecursion (λ v. AllByRecursion (λ t. nothing (table_name t.id) → ⊥) (all_of v.levels)) versions
all_named_free [] = tt
all_named_free (v ∷ versions) = (all_free (λ t. table_name t.id) (all_of v.levels), all_named_free versions)

untouched : (versions : List SeenVersion) (tables : List SeenTable) → Untouched nothing versions tables
untouched versions tables = record { current = λ h. h; files = all_free (λ v. version_name v.id) versions; named = all_named_free versions; unnamed = all_free (λ t. table_name t.id) tables; no_version = λ h. h; in_tables = λ n refused h. h }

-- an image of this moment holds one of the versions
pub holds_now : (w : World) (versions : List SeenVersion) (tables : List SeenTable) (image : Image) → IsStored w versions tables → ((n : List ℕ) → w.may n (image n)) → HoldsOneOf versions image
holds_now w versions tables image stored has = held_beside nothing w image (λ n out. has n) versions tables stored (untouched versions tables)

-- and the one that its `current` names
pub held_now : (w : World) (versions : List SeenVersion) (tables : List SeenTable) (image : Image) → IsStored w versions tables → ((n : List ℕ) → w.may n (image n)) → (v : SeenVersion) → IsIn v versions → IsNaming w v (image current_name) → Holds image v
held_now w versions tables image stored has = held_as nothing w image (λ n out. has n) versions tables stored (untouched versions tables)

-- while nothing is done a crash leaves one of them
pub left_now : (w : World) (versions : List SeenVersion) (tables : List SeenTable) → ((image : Image) → w.since w.moment image → IsImage w.may image) → IsStored w versions tables → Leaves w w versions
left_now w versions tables only stored = started w (HoldsOneOf versions) (λ image left. holds_now w versions tables image stored (only image left))
