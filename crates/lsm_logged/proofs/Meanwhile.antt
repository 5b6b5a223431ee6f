-- What a crash leaves while a logged tree is opened reads as something that it could leave before.
use Rattle.std.proofs.Common.{◌≡◌, ◌≢◌, ◌⊎◌, ⊎_elim, inl, inr, ℕ, ◌<◌, ◌≤◌, ◌^◌, Bool, true, false, List, [], ◌∷◌, Option, Some, None, IsSome, refl, sym, ap, ◌∙◌, subst, codes, lit<}
use Rattle.std.specs.Prelude.{nat_eq}
use Rattle.std.specs.List.{AllByRecursion, starts_with}
use Rattle.std.proofs.lemmas.Bool.{both_ways}
use Rattle.lsm_below.specs.Numbers.{PlainNumbersAreRead}
use Rattle.lsm_store.specs.World.{Image, World, IsImage, Same, LeavesOnly}
use Rattle.lsm_store.specs.Moments.{started, rests, weakened, joined}
use Rattle.lsm_tables.specs.Tables.{SeenTable}
use Rattle.lsm_versions.specs.Levels.{Levels as SeenLevels, SeenVersion, empty_levels}
use Rattle.lsm_manifest.specs.declared.found.Found.{Found}
use Rattle.lsm_manifest.specs.declared.kinds.NameKind.TheVariants as tree
use Rattle.lsm_manifest.specs.Clearing.{IsCleared, IsSettledFirst}
use Rattle.lsm_manifest.specs.Finding.{Finds, Named, Nothing, FoundOnce, AgreesInRead, UnreadNamesDontMatter}
use Rattle.lsm_manifest.specs.Kinds.{kind_of as kind_in_tree, is_orphan}
use Rattle.lsm_manifest.specs.Looking.{Looks}
use Rattle.lsm_manifest.specs.Names.{current_name, version_name, table_name}
use Rattle.lsm_manifest.specs.Opening.{ReadsFrom, IsBegun, IsOldOrBegun, LeavesStanding}
use Rattle.lsm_manifest.specs.Persist.{naming}
use Rattle.lsm_manifest.specs.Ready.{IsReady, KeepsNamed, IsOldOrRead, OpeningLeaves, ReadyKeepsNamed, OpeningLeavesRead}
use Rattle.lsm_manifest.specs.Recovery.{IsNamed}
use Rattle.lsm_manifest.specs.Spelling.{ids_of}
use Rattle.lsm_manifest.specs.Versions.{named_levels, file_of, first_version}
use Rattle.lsm_manifest.proofs.Recovering.{named_so}
use Rattle.lsm_manifest.proofs.Apart.{version_kind}
use Rattle.lsm_manifest.proofs.Pins.{current_stays, version_stays}
use Rattle.lsm_manifest.proofs.Readiness.{never_current}
use Rattle.lsm_manifest.proofs.FirstVersion.{first_file_reads}
use Rattle.lsm_commit.specs.Foreign.{IsForeign, Passes, ForeignNamesSpare}
use Rattle.lsm_commit.specs.Opening.{StoredIsReady}
use Rattle.lsm_commit.specs.Stored.{IsStored, HoldsOneOf}
use Rattle.lsm_commit.proofs.PassingOpened.{no_orphan}
use Rattle.lsm_log.specs.declared.kinds.LogName.TheVariants.{Refused}
use Rattle.lsm_log.specs.LogNames.{record_name, kind_of}
use Rattle.lsm_log.specs.Logs.{HasGoodNames}
use Rattle.lsm_log.specs.Changes.{IsBelow, IsOneOf, IsNoneOf, ClearsRecords, AreCleared}
use Rattle.lsm_log.proofs.BesideTree.{clears_change}
use Rattle.lsm_logged.specs.Meanwhile.{ReadsVersion, ReadsSame, ReadsAsBefore, LeavesAsBefore}
use Rattle.lsm_logged.specs.Removing.{IsOldOrPassed, HasOldOrPassed}
use Rattle.lsm_logged.proofs.LogNames.{none_below, folder_foreign, refused_begins, refused_is_foreign, not_in_log}
use Rattle.lsm_logged.proofs.Removals.{both_leave}
use Rattle.lsm_logged.proofs.Reopening.{fresh_in, found_in}
use Rattle.lsm_logged.proofs.Versions.{version_is_one}

pub each_of : {A : Type 0} (P : A → Type 0) → ((x : A) → P x) → (xs : List A) → AllByRecursion P xs
each_of P f [] = tt
each_of P f (x ∷ xs) = (f x, each_of P f xs)

-- an image reads as itself
pub same_itself : (image : Image) → ReadsSame image image
same_itself image = record { current = inl refl; version = λ v r. r; tables = λ ts f. f; records = λ v k r small le. refl; names = λ n bad. refl }

-- images that agree in `current` and in the file of a version tell it alike
pub reads_by : (a b : Image) (v : SeenVersion) → b current_name ≡ a current_name → b (version_name v.id) ≡ a (version_name v.id) → ReadsFrom a v → ReadsFrom b v
reads_by a b v current version reads =
    let named = reads.named in
    record {
      from = reads.from;
      layout = reads.layout;
      named = record { id_fits = named.id_fits; bytes = named.bytes; current = current ∙ named.current; version = version ∙ named.version; reads = named.reads };
      is = reads.is;
    }

-- images that agree outside the folder of the log: what is found of tables, and of a version, is the same
module _ (unread : UnreadNamesDontMatter) (image other : Image) (outside : (n : List ℕ) → starts_with nat_eq n (codes "log/") ≡ false → other n ≡ image n) where
  agrees_outside : AgreesInRead image other
  agrees_outside = record {
    current = outside current_name refl;
    version = λ id ls named. outside (version_name id) refl;
    tables = λ id ls named. each_of _ (each_of _ (each_of _ (λ t. outside (table_name t.id) refl))) ls;
    no_version = outside (codes "version") refl;
    in_tables = λ n bad. outside n (not_in_log n bad);
  }

  pub finds_outside : (ts : SeenLevels) → Finds image ts → Finds other ts
  finds_outside ts f = (unread image other agrees_outside).0 ts f

  pub reads_outside : (v : SeenVersion) → ReadsVersion image v → ReadsVersion other v
  reads_outside v r =
      let current = outside current_name refl in
      record {
        version = λ there. reads_by image other v current (outside (version_name v.id) refl) (r.version (subst (λ (c : Option (List ℕ)). IsSome c) current there));
        found = λ there. finds_outside v.levels (r.found (subst (λ (c : Option (List ℕ)). IsSome c) current there));
        fresh = λ none. r.fresh (sym current ∙ none);
      }

some_none : {A : Type 0} (o : Option A) (x : A) → o ≡ Some x → o ≡ None → ⊥
some_none o x there none = let z : Some x ≡ None = sym there ∙ none in cc z

some_there : (c : Option (List ℕ)) → IsSome c → c ≡ None → ⊥
some_there c there none = let z = subst (λ (o : Option (List ℕ)). IsSome o) none there in cc z

-- ---- one that reads as what reads gave, but for the folder of the log

module _ (once : FoundOnce) (unread : UnreadNamesDontMatter) (plain : PlainNumbersAreRead) (old : World) (one : IsImage old.may old.gives) (v : SeenVersion) (reads : ReadsVersion old.gives v) (finds : Finds old.gives v.levels) (good : HasGoodNames old.gives)
    (image : Image) (now : ReadsVersion image v) (found : Finds image v.levels) (left : HasOldOrPassed old v.log_from image) (current : (image current_name ≡ old.gives current_name) ⊎ (old.gives current_name ≡ None)) where
  -- what is removed is put back
  abbrev put_back : (n : List ℕ) → IsOldOrPassed old v.log_from n (image n) → Option (List ℕ)
  put_back n (inl may) = image n
  put_back n (inr gone) = old.gives n

  abbrev chosen : (n : List ℕ) (b : Bool) → starts_with nat_eq n (codes "log/") ≡ b → Option (List ℕ)
  chosen n true e = put_back n (left n (folder_foreign n e))
  chosen n false e = old.gives n

  abbrev was : Image
  was n = chosen n (starts_with nat_eq n (codes "log/")) refl

  put_may : (n : List ℕ) (d : IsOldOrPassed old v.log_from n (image n)) → old.may n (put_back n d)
  put_may n (inl may) = may
  put_may n (inr gone) = one n

  chosen_may : (n : List ℕ) (b : Bool) (e : starts_with nat_eq n (codes "log/") ≡ b) → old.may n (chosen n b e)
  chosen_may n true e = put_may n (left n (folder_foreign n e))
  chosen_may n false e = one n

  -- elsewhere it is what reads gave
  chosen_else : (n : List ℕ) (b : Bool) (e : starts_with nat_eq n (codes "log/") ≡ b) → starts_with nat_eq n (codes "log/") ≡ false → chosen n b e ≡ old.gives n
  chosen_else n true e out = absurd (both_ways (starts_with nat_eq n (codes "log/")) out e)
  chosen_else n false e out = refl

  outside : (n : List ℕ) → starts_with nat_eq n (codes "log/") ≡ false → old.gives n ≡ was n
  outside n out = sym (chosen_else n (starts_with nat_eq n (codes "log/")) refl out)

  levels_one : (ts : SeenLevels) → Finds was ts → v.levels ≡ ts
  levels_one ts f = once old.gives v.levels ts finds (finds_outside unread was old.gives outside ts f)

  version_one : (u : SeenVersion) → ReadsVersion was u → v ≡ u
  version_one u r = version_is_one once old.gives v u reads (reads_outside unread was old.gives outside u r)

  -- in the folder of the log
  record_put : (k : ℕ) → k < 2 ^ 63 → v.log_from ≤ k → (d : IsOldOrPassed old v.log_from (record_name k) (image (record_name k))) → image (record_name k) ≡ put_back (record_name k) d
  record_put k small le (inl may) = refl
  record_put k small le (inr gone) = absurd (none_below plain v.log_from k le small gone.1.0 gone.1.1 gone.1.2)

  record_same : (k : ℕ) → k < 2 ^ 63 → v.log_from ≤ k → (b : Bool) (e : starts_with nat_eq (record_name k) (codes "log/") ≡ b) → image (record_name k) ≡ chosen (record_name k) b e
  record_same k small le true e = record_put k small le (left (record_name k) (folder_foreign (record_name k) e))
  record_same k small le false e = absurd (both_ways (starts_with nat_eq (record_name k) (codes "log/")) e refl)

  refused_put : (n : List ℕ) → kind_of n ≡ Refused → (d : IsOldOrPassed old v.log_from n (image n)) → image n ≡ put_back n d
  refused_put n bad (inl may) = refl
  refused_put n bad (inr gone) = gone.0 ∙ sym (good n bad)

  refused_same : (n : List ℕ) → kind_of n ≡ Refused → (b : Bool) (e : starts_with nat_eq n (codes "log/") ≡ b) → image n ≡ chosen n b e
  refused_same n bad true e = refused_put n bad (left n (folder_foreign n e))
  refused_same n bad false e = absurd (both_ways (starts_with nat_eq n (codes "log/")) e (refused_begins n bad))

  pub as_before : ReadsAsBefore old image
  as_before = (
    was,
    (λ n. chosen_may n (starts_with nat_eq n (codes "log/")) refl),
    record {
      current = ⊎_elim (λ same. inl (same ∙ outside current_name refl)) (λ none. inr (sym (outside current_name refl) ∙ none)) current;
      version = λ u r. subst (ReadsVersion image) (version_one u r) now;
      tables = λ ts f. subst (Finds image) (levels_one ts f) found;
      records = λ u k r small le. record_same k small (subst (λ (x : SeenVersion). x.log_from ≤ k) (sym (version_one u r)) le) (starts_with nat_eq (record_name k) (codes "log/")) refl;
      names = λ n bad. refused_same n bad (starts_with nat_eq n (codes "log/")) refl;
    },
  )

-- ---- the file of the first version

first_read : (image : Image) → image current_name ≡ Some (naming 0 (file_of first_version)) → image (version_name 0) ≡ Some (file_of first_version) → ReadsFrom image first_version
first_read image current version = record {
  from = Some 0;
  layout = named_levels empty_levels;
  named = record { id_fits = lit< tt; bytes = file_of first_version; current = current; version = version; reads = first_file_reads };
  is = refl;
}

-- ---- while the tree's files are opened

no_first : (n : List ℕ) → IsForeign n → n ≢ version_name 0
no_first n foreign e = let z : tree.Other ≡ tree.VersionFile = sym foreign.other ∙ (ap kind_in_tree e ∙ version_kind 0 (lit< tt)) in absurd (cc z)

-- without `current` no tables are found
none_found : (image : Image) (ts : SeenLevels) → image current_name ≡ None → Finds image ts → ts ≡ empty_levels
none_found image ts none (Named id ls stands) = let named = stands.named in absurd (some_none (image current_name) _ named.current none)
none_found image ts none (Nothing absent good e) = e

module _ (once : FoundOnce) (unread : UnreadNamesDontMatter) (plain : PlainNumbersAreRead) (old : World) (one : IsImage old.may old.gives) (ready : IsReady old) (v : SeenVersion) (reads : ReadsVersion old.gives v) (good : HasGoodNames old.gives) where
  pub read_finds : Finds old.gives v.levels
  read_finds = by_current (old.gives current_name) refl
    where
      by_current : (c : Option (List ℕ)) → old.gives current_name ≡ c → Finds old.gives v.levels
      by_current (Some bytes) is = reads.found (subst (λ (o : Option (List ℕ)). IsSome o) (sym is) refl)
      by_current None is =
          let f = ready.found old.gives one in
          let empty : f.0 ≡ v.levels = none_found old.gives f.0 is f.1 ∙ sym (ap (λ (u : SeenVersion). u.levels) (reads.fresh is)) in
          subst (Finds old.gives) empty f.1

  abbrev alike : (image : Image) → ReadsVersion image v → Finds image v.levels → HasOldOrPassed old v.log_from image → (image current_name ≡ old.gives current_name) ⊎ (old.gives current_name ≡ None) → ReadsAsBefore old image
  alike = as_before once unread plain old one v reads read_finds good

  pub itself : (image : Image) → IsImage old.may image → ReadsAsBefore old image
  itself image may = (image, may, same_itself image)

  -- a new tree is begun
  module _ (none : old.gives current_name ≡ None) (image : Image) (begun : IsBegun old image) (found : Finds image v.levels) where
    begun_reads : ReadsVersion image v
    begun_reads = ⊎_elim (λ was. still (was (Some []) (never_current old ready one) ∙ none)) (λ new. first new.0 new.1) begun.named
      where
        still : image current_name ≡ None → ReadsVersion image v
        still gone = record {
          version = λ there. absurd (some_there (image current_name) there gone);
          found = λ there. found;
          fresh = λ n. reads.fresh none;
        }

        first : image current_name ≡ Some (naming 0 (file_of first_version)) → image (version_name 0) ≡ Some (file_of first_version) → ReadsVersion image v
        first current version = record {
          version = λ there. subst (ReadsFrom image) (sym (reads.fresh none)) (first_read image current version);
          found = λ there. found;
          fresh = λ gone. absurd (some_none (image current_name) _ current gone);
        }

    pub begun_alike : ReadsAsBefore old image
    begun_alike = alike image begun_reads found (λ n foreign. inl (begun.elsewhere n (no_first n foreign) foreign.not_current)) (inr none)

  -- what was read is settled, and orphans are removed
  module _ (there : IsSome (old.gives current_name)) (image : Image) (keeps : (from : ReadsFrom old.gives v) → KeepsNamed old v.id from.layout) (cleared : IsCleared (is_orphan v.id (ids_of (reads.version there).layout)) old image)
      (fixed : (n : List ℕ) (impossible : Option (List ℕ)) → is_orphan v.id (ids_of (reads.version there).layout) n ≡ false → ¬ old.may n impossible → image n ≡ old.gives n) (found : Finds image v.levels) where
    current_same : image current_name ≡ old.gives current_name
    current_same = let from = reads.version there in fixed current_name (Some []) (current_stays v.id (ids_of from.layout)) (keeps from).current

    settled_reads : ReadsVersion image v
    settled_reads =
        let from = reads.version there in
        let ids = ids_of from.layout in
        let kept = keeps from in
        record {
          version = λ _. reads_by old.gives image v current_same (fixed (version_name v.id) None (version_stays v.id ids) kept.version) from;
          found = λ _. found;
          fresh = λ none. absurd (some_there (old.gives current_name) there (sym current_same ∙ none));
        }

    pub settled_alike : ReadsAsBefore old image
    settled_alike = alike image settled_reads found (λ n foreign. inl (⊎_elim (λ was. was) (λ gone. absurd (both_ways _ (no_orphan v.id (ids_of (reads.version there).layout) n foreign) gone.1)) (cleared n))) (inl current_same)

  -- at each moment of it
  module _ (new : World) (keeps : (from : ReadsFrom old.gives v) → KeepsNamed old v.id from.layout) (leaves : LeavesStanding old new) (reading : LeavesOnly old new (IsOldOrRead old v.levels)) where
    named_moment : IsSome (old.gives current_name) → LeavesOnly old new (ReadsAsBefore old)
    named_moment there =
        let from = reads.version there in
        let orphan = is_orphan v.id (ids_of from.layout) in
        let named : IsNamed old.gives v.id from.layout = record { id_fits = from.named.id_fits; bytes = from.named.bytes; current = from.named.current; version = from.named.version; reads = record { from = from.from; file = from.named.reads } } in
        weakened old new (λ image. (IsCleared orphan old image × IsSettledFirst orphan old image) × IsOldOrRead old v.levels image) (ReadsAsBefore old)
        (both_leave old new (λ image. IsCleared orphan old image × IsSettledFirst orphan old image) (IsOldOrRead old v.levels)
        (both_leave old new (IsCleared orphan old) (IsSettledFirst orphan old) (leaves.any_moment v.id from.layout named) (leaves.settled_first v.id from.layout named)) reading)
        (λ image is. ⊎_elim (λ may. itself image may) (λ fixed. ⊎_elim (λ may. itself image may) (λ found. settled_alike there image keeps is.0.0 fixed found) is.1) is.0.1)

    new_moment : old.gives current_name ≡ None → LeavesOnly old new (ReadsAsBefore old)
    new_moment none =
        weakened old new (λ image. IsOldOrBegun old image × IsOldOrRead old v.levels image) (ReadsAsBefore old)
        (both_leave old new (IsOldOrBegun old) (IsOldOrRead old v.levels) (leaves.new_settled none) reading)
        (λ image is. ⊎_elim (λ may. itself image may) (λ begun. ⊎_elim (λ may. itself image may) (λ found. begun_alike none image begun found) is.1) is.0)

    pub files_moment : LeavesOnly old new (ReadsAsBefore old)
    files_moment = by_current (old.gives current_name) refl
      where
        by_current : (c : Option (List ℕ)) → old.gives current_name ≡ c → LeavesOnly old new (ReadsAsBefore old)
        by_current (Some bytes) is = named_moment (subst (λ (o : Option (List ℕ)). IsSome o) (sym is) refl)
        by_current None is = new_moment is

  -- ---- while records are removed

  module _ (mid new : World) (before : LeavesOnly old mid (ReadsAsBefore old)) (passes : Passes old mid) (one_mid : IsImage mid.may mid.gives) (counts : (image : Image) → IsImage mid.may image → mid.since old.moment image)
      (versions : LeavesOnly mid new (HoldsOneOf (v ∷ []))) (records : LeavesOnly mid new (AreCleared (IsBelow v.log_from) mid)) where
    module _ (image : Image) (holds : HoldsOneOf (v ∷ []) image) (cleared : AreCleared (IsBelow v.log_from) mid image) where
      -- what is removed is put back
      abbrev fill : (n : List ℕ) → mid.may n (image n) ⊎ ((image n ≡ None) × IsOneOf (IsBelow v.log_from) n) → Option (List ℕ)
      fill n (inl may) = image n
      fill n (inr gone) = mid.gives n

      abbrev filled : Image
      filled n = fill n (cleared n)

      fill_may : (n : List ℕ) (d : mid.may n (image n) ⊎ ((image n ≡ None) × IsOneOf (IsBelow v.log_from) n)) → mid.may n (fill n d)
      fill_may n (inl may) = may
      fill_may n (inr gone) = one_mid n

      fill_else : (n : List ℕ) → IsNoneOf (IsBelow v.log_from) n → (d : mid.may n (image n) ⊎ ((image n ≡ None) × IsOneOf (IsBelow v.log_from) n)) → image n ≡ fill n d
      fill_else n none (inl may) = refl
      fill_else n none (inr gone) = absurd (none gone.1.0 gone.1.1 gone.1.2)

      fill_refused : (n : List ℕ) → kind_of n ≡ Refused → (d : mid.may n (image n) ⊎ ((image n ≡ None) × IsOneOf (IsBelow v.log_from) n)) → image n ≡ fill n d
      fill_refused n bad (inl may) = refl
      fill_refused n bad (inr gone) = gone.0 ∙ sym (passes.gives n (refused_is_foreign n bad) ∙ good n bad)

      -- so that a crash could leave it before
      left_before : ReadsAsBefore old filled
      left_before = before.each filled (counts filled (λ n. fill_may n (cleared n)))

      beside : (n : List ℕ) → starts_with nat_eq n (codes "log/") ≡ false → image n ≡ filled n
      beside n out = fill_else n (λ k lt e. both_ways (starts_with nat_eq n (codes "log/")) out (ap (λ (l : List ℕ). starts_with nat_eq l (codes "log/")) e)) (cleared n)

      found_on : (ts : SeenLevels) → Finds filled ts → Finds image ts
      found_on ts f = finds_outside unread filled image beside ts f

      version_on : (u : SeenVersion) → ReadsVersion filled u → ReadsVersion image u
      version_on u r = reads_outside unread filled image beside u r

      now : ReadsVersion image v
      now =
          let is : v ≡ holds.0 = ⊎_elim (λ (e : v ≡ holds.0). e) (λ (no : ⊥). absurd no) holds.1 in
          let stands = holds.2 in
          let named = stands.named in
          record {
            version = λ _. subst (ReadsFrom image) (sym is) holds.3;
            found = λ _. subst (λ (u : SeenVersion). Finds image u.levels) (sym is) (Named holds.0.id (named_levels holds.0.levels) stands);
            fresh = λ none. absurd (some_none (image current_name) _ named.current none);
          }

      record_on : (u : SeenVersion) (k : ℕ) → ReadsVersion left_before.0 u → k < 2 ^ 63 → u.log_from ≤ k → image (record_name k) ≡ filled (record_name k)
      record_on u k r small le =
          let is : v ≡ u = version_is_one once image v u now (version_on u (left_before.2.version u r)) in
          let high : v.log_from ≤ k = subst (λ (x : SeenVersion). x.log_from ≤ k) (sym is) le in
          fill_else (record_name k) (none_below plain v.log_from k high small) (cleared (record_name k))

      holds_alike : ReadsAsBefore old image
      holds_alike = (
        left_before.0,
        left_before.1,
        record {
          current = ⊎_elim (λ same. inl (beside current_name refl ∙ same)) inr left_before.2.current;
          version = λ u r. version_on u (left_before.2.version u r);
          tables = λ ts f. found_on ts (left_before.2.tables ts f);
          records = λ u k r small le. record_on u k r small le ∙ left_before.2.records u k r small le;
          names = λ n bad. fill_refused n bad (cleared n) ∙ left_before.2.names n bad;
        },
      )

    pub records_moment : LeavesOnly old new (ReadsAsBefore old)
    records_moment =
        joined old mid new (ReadsAsBefore old) (λ image. HoldsOneOf (v ∷ []) image × AreCleared (IsBelow v.log_from) mid image) (ReadsAsBefore old) before
        (both_leave mid new (HoldsOneOf (v ∷ [])) (AreCleared (IsBelow v.log_from) mid) versions records)
        (λ image is. is) (λ image is. holds_alike image is.0 is.1)

-- ---- while nothing is done

pub nothing_moment : (old new : World) → ((image : Image) → old.since old.moment image → IsImage old.may image) → Same old new → IsReady old → LeavesAsBefore old new
nothing_moment old new only same ready = record {
  meanwhile = weakened old new (IsImage old.may) (ReadsAsBefore old) (rests old old new (IsImage old.may) (started old (IsImage old.may) only) same) (λ image may. (image, may, same_itself image));
  again = record {
    found = λ image at. ready.found image (still image at);
    once = λ a b ts at_a at_b. ready.once a b ts (still a at_a) (still b at_b);
    none = λ a b ts at_a at_b. ready.none a b ts (still a at_a) (still b at_b);
  };
}
  where
    still : (image : Image) → IsImage new.may image → IsImage old.may image
    still image at n = (same.may n (image n)).0 (at n)

-- what is found is what an opening reads
pub looks_read : (old new : World) (f : Found) → Looks old new f → ReadsVersion old.gives f.opened.version
looks_read old new f looks = record { version = looks.from; found = found_in old.gives f looks.found; fresh = fresh_in old.gives f looks.found }

-- ---- in an opening

module _ {S : Type 0} (world : S → World) (once : FoundOnce) (unread : UnreadNamesDontMatter) (plain : PlainNumbersAreRead) (keeps_named : ReadyKeepsNamed S world) (leaves_read : OpeningLeavesRead S world) (spares : ForeignNamesSpare S world) (ready_again : StoredIsReady S world)
    (store : S) (one : IsImage (world store).may (world store).gives) (ready : IsReady (world store)) (f : Found) (reads : ReadsVersion (world store).gives f.opened.version) (good : HasGoodNames (world store).gives) where
  abbrev v : SeenVersion
  v = f.opened.version

  opening : (left : S) → LeavesStanding (world store) (world left) → OpeningLeaves (world store) (world left) v.levels
  opening left leaves = leaves_read store left v.levels ready (read_finds once unread plain (world store) one ready v reads good) leaves

  moment : (left : S) → LeavesStanding (world store) (world left) → LeavesOnly (world store) (world left) (ReadsAsBefore (world store))
  moment left leaves =
      files_moment once unread plain (world store) one ready v reads good (world left) (λ from. keeps_named store v.id from.layout ready (named_so (world store).gives v.id from.from from.layout from.named)) leaves (opening left leaves).meanwhile

  -- the tree's files are opened, or refused
  pub files_left : (left : S) → LeavesStanding (world store) (world left) → LeavesAsBefore (world store) (world left)
  files_left left leaves = record { meanwhile = moment left leaves; again = (opening left leaves).again }

  -- and records are removed after that
  pub records_left : (mid new : S) → IsImage (world mid).may (world mid).gives → ((image : Image) → (world store).moment ≤ (world mid).moment → IsImage (world mid).may image → (world mid).since (world store).moment image)
      → (versions : List SeenVersion) (written : List SeenTable) → versions ≡ v ∷ [] → LeavesStanding (world store) (world mid) → Passes (world store) (world mid) → IsStored (world mid) versions written
      → ClearsRecords (IsBelow v.log_from) (world mid) (world new) → LeavesOnly (world mid) (world new) (AreCleared (IsBelow v.log_from) (world mid)) → LeavesAsBefore (world store) (world new)
  records_left mid new one_mid counts versions written is leaves passes stored clears cleared =
      let behind = spares mid new (clears_change (IsBelow v.log_from) (world mid) (world new) clears cleared) versions written stored in
      record {
        meanwhile = records_moment once unread plain (world store) one ready v reads good (world mid) (world new) (moment mid leaves) passes one_mid (λ image may. counts image (moment mid leaves).later may) (subst (λ vs. LeavesOnly (world mid) (world new) (HoldsOneOf vs)) is behind.1) cleared;
        again = ready_again new versions written behind.0;
      }
