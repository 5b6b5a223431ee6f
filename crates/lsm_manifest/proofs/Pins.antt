-- What stands is no orphan, so a crash while orphans are removed leaves it.
use Rattle.std.proofs.Common.{◌≡◌, ⊎_elim, ℕ, Bool, true, false, not, ◌||◌, cond, eqb, List, [], ◌∷◌, ◌<◌, ◌^◌, Option, None, refl, ap, ◌∙◌, codes}
use Rattle.std.specs.Prelude.{bytes_eq}
use Rattle.std.specs.List.{AllByRecursion, list_any}
use Rattle.std.proofs.lemmas.Bool.{or_left, or_right, eq-eqb, both_ways}
use Rattle.std.proofs.lemmas.Slice.Eq.{bytes_eq-Decides}
use Rattle.std.proofs.lemmas.List.Concat.{flat_map-cons}
use Rattle.std.proofs.lemmas.List.Folds.{list_any-append}
use Rattle.lsm_store.specs.World.{Image, World}
use Rattle.lsm_tables.specs.Tables.{SeenTable}
use Rattle.lsm_versions.specs.Levels.{Levels as SeenLevels, SeenVersion}
use Rattle.lsm_manifest.specs.declared.recovered_table.RecoveredTable.{RecoveredTable}
use Rattle.lsm_manifest.specs.declared.kinds.NameKind.TheVariants.{VersionFile, TableFile, Skipped, Other}
use Rattle.lsm_manifest.specs.Names.{current_name, version_name, table_name}
use Rattle.lsm_manifest.specs.Kinds.{kind_in_tables, kind_of, is_old_version, is_stray, is_orphan}
use Rattle.lsm_manifest.specs.Spelling.{ids_of_run, ids_of_level, ids_of, IsNamedTable, IsRun, IsLevel}
use Rattle.lsm_manifest.specs.Recovery.{Levels}
use Rattle.lsm_manifest.specs.Standing.{Pairwise, IsTableAt, StandsFor}
use Rattle.lsm_manifest.specs.Clearing.{IsCleared}
use Rattle.lsm_manifest.specs.Pinned.{IsFixed, IsPinned}
use Rattle.lsm_manifest.specs.Opening.{ReadsFrom}
use Rattle.lsm_below.specs.Numbers.{PlainNumbersAreRead}

-- ---- what stands is no orphan

pub current_stays : (id : ℕ) (ids : List ℕ) → is_orphan id ids current_name ≡ false
unfolding kind_of
current_stays id ids = refl

version_kind : (id : ℕ) (ids n : List ℕ) (b : Bool) → bytes_eq n (version_name id) ≡ true → (is_old_version id n (cond b VersionFile Other) || is_stray ids (cond b VersionFile Other)) ≡ false
version_kind id ids n true e = rw e refl
version_kind id ids n false e = refl

pub version_stays : (id : ℕ) (ids : List ℕ) → is_orphan id ids (version_name id) ≡ false
unfolding kind_of
version_stays id ids = version_kind id ids (version_name id) (not (list_any (λ b. eqb b 47) (version_name id))) ((bytes_eq-Decides (version_name id) (version_name id)).1 refl)

table_kind : (id i : ℕ) (ids n : List ℕ) (b : Bool) → list_any (λ m. eqb m i) ids ≡ true → (is_old_version id n (cond b Skipped (TableFile i)) || is_stray ids (cond b Skipped (TableFile i))) ≡ false
table_kind id i ids n true e = refl
table_kind id i ids n false e = rw e refl

pub table_stays : PlainNumbersAreRead → (id i : ℕ) (ids : List ℕ) → i < 2 ^ 64 → list_any (λ m. eqb m i) ids ≡ true → is_orphan id ids (table_name i) ≡ false
unfolding kind_of kind_in_tables
table_stays read id i ids small named = rw (read i small) (table_kind id i ids (table_name i) _ named)

-- ---- the tables of a layout are among its numbers

module _ (read : PlainNumbersAreRead) (id : ℕ) (ids : List ℕ) where
  abbrev In : ℕ → Type 0
  In i = list_any (λ m. eqb m i) ids ≡ true

  abbrev Stays : RecoveredTable → Type 0
  Stays t = is_orphan id ids (table_name t.id) ≡ false

  run_stays : (ts : List RecoveredTable) → ((i : ℕ) → list_any (λ m. eqb m i) (ids_of_run ts) ≡ true → In i) → AllByRecursion IsNamedTable ts → AllByRecursion Stays ts
  run_stays [] within fits = tt
  run_stays (t ∷ ts) within fits = (
    table_stays read id t.id ids fits.0.id (within t.id (or_left (eqb t.id t.id) (list_any (λ m. eqb m t.id) (ids_of_run ts)) (eq-eqb t.id t.id refl))),
    run_stays ts (λ i is. within i (or_right (eqb t.id i) (list_any (λ m. eqb m i) (ids_of_run ts)) is)) fits.1,
  )

  level_stays : (rs : List (List RecoveredTable)) → ((i : ℕ) → list_any (λ m. eqb m i) (ids_of_level rs) ≡ true → In i) → AllByRecursion IsRun rs → AllByRecursion (λ r. AllByRecursion Stays r) rs
  level_stays [] within fits = tt
  level_stays (r ∷ rs) within fits =
      let split = λ (i : ℕ). ap (list_any (λ m. eqb m i)) (flat_map-cons ids_of_run r rs) ∙ list_any-append (λ m. eqb m i) (ids_of_run r) (ids_of_level rs) in (
        run_stays r (λ i is. within i (split i ∙ or_left (list_any (λ m. eqb m i) (ids_of_run r)) (list_any (λ m. eqb m i) (ids_of_level rs)) is)) fits.0.each,
        level_stays rs (λ i is. within i (split i ∙ or_right (list_any (λ m. eqb m i) (ids_of_run r)) (list_any (λ m. eqb m i) (ids_of_level rs)) is)) fits.1,
      )

  pub layout_stays : (ls : Levels) → ((i : ℕ) → list_any (λ m. eqb m i) (ids_of ls) ≡ true → In i) → AllByRecursion IsLevel ls → AllByRecursion (λ l. AllByRecursion (λ r. AllByRecursion Stays r) l) ls
  layout_stays [] within fits = tt
  layout_stays (l ∷ ls) within fits =
      let split = λ (i : ℕ). ap (list_any (λ m. eqb m i)) (flat_map-cons ids_of_level l ls) ∙ list_any-append (λ m. eqb m i) (ids_of_level l) (ids_of ls) in (
        level_stays l (λ i is. within i (split i ∙ or_left (list_any (λ m. eqb m i) (ids_of_level l)) (list_any (λ m. eqb m i) (ids_of ls)) is)) fits.0.each,
        layout_stays ls (λ i is. within i (split i ∙ or_right (list_any (λ m. eqb m i) (ids_of_level l)) (list_any (λ m. eqb m i) (ids_of ls)) is)) fits.1,
      )

-- ---- images

module _ (old : World) (id : ℕ) (ids : List ℕ) (image : Image) (left : IsCleared (is_orphan id ids) old image) where
  same_at : (n : List ℕ) → is_orphan id ids n ≡ false → IsFixed old n → image n ≡ old.gives n
  same_at n stays fixed = ⊎_elim (λ may. fixed (image n) may) (λ gone. absurd (both_ways (is_orphan id ids n) stays gone.1)) (left n)

  none_at : (n : List ℕ) → ((c : Option (List ℕ)) → old.may n c → c ≡ None) → image n ≡ None
  none_at n never = ⊎_elim (λ may. never (image n) may) (λ gone. gone.0) (left n)

  table_at : (t : RecoveredTable) (u : SeenTable) → is_orphan id ids (table_name t.id) ≡ false → IsFixed old (table_name t.id) → IsTableAt old.gives t u → IsTableAt image t u
  table_at t u stays fixed at = record { id = at.id; bytes = at.bytes; file = same_at (table_name t.id) stays fixed ∙ at.file; summed = at.summed; reads = at.reads }

-- a relation that holds pairwise goes over, element by element
pub over : {A B : Type 0} (S : A → Type 0) (F : A → Type 0) (R Q : A → B → Type 0) → ((x : A) (y : B) → S x → F x → R x y → Q x y) → (xs : List A) (ys : List B) → AllByRecursion S xs → AllByRecursion F xs → Pairwise R xs ys → Pairwise Q xs ys
over S F R Q f [] [] s p r = tt
over S F R Q f [] (y ∷ ys) s p r = absurd r
over S F R Q f (x ∷ xs) [] s p r = absurd r
over S F R Q f (x ∷ xs) (y ∷ ys) s p r = (f x y s.0 p.0 r.0, over S F R Q f xs ys s.1 p.1 r.1)

pub pinned_stands : PlainNumbersAreRead → (old : World) (id : ℕ) (ls : Levels) (ts : SeenLevels) (image : Image) → StandsFor old.gives id ls ts → IsPinned old id ls → IsCleared (is_orphan id (ids_of ls)) old image → StandsFor image id ls ts
pinned_stands read old id ls ts image stands pin left =
    let ids = ids_of ls in
    let Stay = λ (t : RecoveredTable). is_orphan id ids (table_name t.id) ≡ false in
    let Fix = λ (t : RecoveredTable). IsFixed old (table_name t.id) in
    let stay = layout_stays read id ids ls (λ i is. is) stands.named.reads.file.is.laid_out.each in
    let one = over Stay Fix (IsTableAt old.gives) (IsTableAt image) (table_at old id ids image left) in
    let two = over (λ r. AllByRecursion Stay r) (λ r. AllByRecursion Fix r) (Pairwise (IsTableAt old.gives)) (Pairwise (IsTableAt image)) one in
    record {
      named = record {
        id_fits = stands.named.id_fits;
        bytes = stands.named.bytes;
        current = same_at old id ids image left current_name (current_stays id ids) pin.current ∙ stands.named.current;
        version = same_at old id ids image left (version_name id) (version_stays id ids) pin.version ∙ stands.named.version;
        reads = stands.named.reads;
      };
      tables = over (λ l. AllByRecursion (λ r. AllByRecursion Stay r) l) (λ l. AllByRecursion (λ r. AllByRecursion Fix r) l) (Pairwise (Pairwise (IsTableAt old.gives))) (Pairwise (Pairwise (IsTableAt image))) two ls ts stay pin.tables stands.tables;
      runs = stands.runs;
      names = record {
        no_version = none_at old id ids image left (codes "version") pin.no_version;
        in_tables = λ n bad. none_at old id ids image left n (λ c. pin.in_tables n c bad);
      };
    }

pub pinned_reads : (old : World) (v : SeenVersion) (image : Image) (reads : ReadsFrom old.gives v) → IsPinned old v.id reads.layout → IsCleared (is_orphan v.id (ids_of reads.layout)) old image → ReadsFrom image v
pinned_reads old v image reads pin left =
    let ids = ids_of reads.layout in
    let named = reads.named in
    record {
      from = reads.from;
      layout = reads.layout;
      named = record {
        id_fits = named.id_fits;
        bytes = named.bytes;
        current = same_at old v.id ids image left current_name (current_stays v.id ids) pin.current ∙ named.current;
        version = same_at old v.id ids image left (version_name v.id) (version_stays v.id ids) pin.version ∙ named.version;
        reads = named.reads;
      };
      is = reads.is;
    }
