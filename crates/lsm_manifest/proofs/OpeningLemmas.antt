-- What is found where a tree is opened.
use Rattle.std.proofs.Common.{◌≡◌, inl, inr, ⊎_elim, ℕ, Bool, true, false, not, ◌||◌, eqb, List, Option, Some, None, Err, ◌≤◌, refl, sym, ap, subst, ◌∙◌, arith}
use Rattle.std.specs.Prelude.{IsSome}
use Rattle.std.specs.Str.{bytes_eq}
use Rattle.std.specs.List.Sorted.{IsPermutation}
use Rattle.std.proofs.lemmas.List.Sorted.{IsPermutation-sym, list_any-IsPermutation}
use Rattle.std.proofs.lemmas.Slice.Eq.{bytes_eq-Decides}
use Rattle.std.proofs.lemmas.Bool.{both_ways}
use Rattle.lsm_tables.specs.Spellings.{ok_is}
use Rattle.lsm_store.specs.World.{Image, World, Lists, IsImage, Same, Narrows, IsOnDisk, LeavesOnly}
use Rattle.lsm_versions.specs.Levels.{Levels as SeenLevels}
use Rattle.lsm_manifest.specs.declared.fault.Fault.{Fault}
use Rattle.lsm_manifest.specs.declared.fault.Fault.TheVariants.{Unrecoverable}
use Rattle.lsm_manifest.specs.declared.fault.OpenError.{OpenError}
use Rattle.lsm_manifest.specs.declared.fault.OpenError.TheVariants as opening
use Rattle.lsm_manifest.specs.declared.kinds.NameKind.{NameKind}
use Rattle.lsm_manifest.specs.declared.kinds.NameKind.TheVariants.{VersionFile, TableFile, Skipped, Refused, Other}
use Rattle.lsm_manifest.specs.Kinds.{kind_of, is_old_version, is_stray, is_orphan}
use Rattle.lsm_manifest.specs.Spelling.{ids_of}
use Rattle.lsm_manifest.specs.Recovery.{Levels, IsNamed, version_of, StoreOnly}
use Rattle.lsm_manifest.specs.Names.{current_name}
use Rattle.lsm_manifest.specs.Persist.{IsPersisted, IsOldOrNew}
use Rattle.lsm_manifest.specs.Versions.{file_of, first_version}
use Rattle.lsm_store.specs.Moments.{started, narrows_on, joined}
use Rattle.lsm_manifest.specs.Standing.{AreTablesAt}
use Rattle.lsm_manifest.specs.Opening.{is_refused, FindsAny, LevelsFault, FilesFault, BadName, BadLevels, IsFound, IsFirstNamed, ChecksLevels, ChecksFiles, OpensFiles, KeepsFiles, IsOldOrBegun}
use Rattle.lsm_manifest.specs.declared.opening.Opened.{Opened}
use Rattle.lsm_manifest.proofs.Recovering.{recovery_back}
use Rattle.lsm_store.specs.Moments.{image_same}

pub refused_is : (k : NameKind) → is_refused k ≡ true → k ≡ Refused
refused_is VersionFile e = absurd cc
refused_is (TableFile i) e = absurd cc
refused_is Skipped e = absurd cc
refused_is Refused e = refl
refused_is Other e = absurd cc

-- a refused name is there
pub bad_name : (gives : Image) (names : List (List ℕ)) (id : ℕ) (ls : Levels) → Lists gives names → IsNamed gives id ls → FindsAny (λ n. is_refused (kind_of n)) names true → FilesFault gives Unrecoverable
bad_name gives names id ls all named found = BadName id ls found.0 named ((all.each found.0).0 found.1) (refused_is (kind_of found.0) found.2) refl

-- no refused name is there
pub good_names : (gives : Image) (names : List (List ℕ)) → Lists gives names → FindsAny (λ n. is_refused (kind_of n)) names false → (n : List ℕ) → kind_of n ≡ Refused → gives n ≡ None
good_names gives names all found n bad = by_content (gives n) refl
  where
    by_content : (o : Option (List ℕ)) → gives n ≡ o → gives n ≡ None
    by_content None e = e
    by_content (Some x) e = absurd (both_ways (is_refused (kind_of n)) (found n ((all.each n).1 (subst (λ (c : Option (List ℕ)). IsSome c) (sym e) refl))) (ap is_refused bad))

-- the faults of levels, read from a store that gives the same
pub bad_levels : (old mid : Image) (id : ℕ) (ls : Levels) (f : Fault) → ((n : List ℕ) → mid n ≡ old n) → IsNamed old id ls → ((n : List ℕ) → kind_of n ≡ Refused → old n ≡ None) → LevelsFault mid ls f → FilesFault old f
bad_levels old mid id ls f same named good bad = BadLevels id ls named good (subst (λ (image : Image). LevelsFault image ls f) (image_same old mid same) bad)

-- two versions that are named are one
pub named_once : (image : Image) (i j : ℕ) (ls ms : Levels) → IsNamed image i ls → IsNamed image j ms → (i ≡ j) × (ls ≡ ms)
named_once image i j ls ms a b =
    let same = ok_is (version_of i ls) (version_of j ms) (sym (recovery_back image i ls a) ∙ recovery_back image j ms b) in
    (ap (λ (x : ℕ × Levels). x.0) same, ap (λ (x : ℕ × Levels). x.1) same)

stray_permuted : (xs ys : List ℕ) (k : NameKind) → IsPermutation xs ys → is_stray xs k ≡ is_stray ys k
stray_permuted xs ys VersionFile p = refl
stray_permuted xs ys (TableFile i) p = ap not (list_any-IsPermutation (λ m. eqb m i) xs ys p)
stray_permuted xs ys Skipped p = refl
stray_permuted xs ys Refused p = refl
stray_permuted xs ys Other p = refl

-- in what order the ids stand makes no difference
orphan_permuted : (id : ℕ) (xs ys n : List ℕ) → IsPermutation xs ys → is_orphan id xs n ≡ is_orphan id ys n
orphan_permuted id xs ys n p = ap (λ (b : Bool). is_old_version id n (kind_of n) || b) (stray_permuted xs ys (kind_of n) p)

pub found_orphans : (image : Image) (id : ℕ) (ts : SeenLevels) (next : ℕ) (ids : List ℕ) (i : ℕ) (ls : Levels) → IsFound image id ts next ids → IsNamed image i ls → (n : List ℕ) → is_orphan id ids n ≡ is_orphan i (ids_of ls) n
found_orphans image id ts next ids i ls found named n =
    let once = named_once image id i found.layout ls found.named named in
    orphan_permuted id ids (ids_of found.layout) n (IsPermutation-sym (ids_of found.layout) ids found.ids_are) ∙ ap (λ (l : Levels). is_orphan id (ids_of l) n) once.1 ∙ ap (λ (k : ℕ). is_orphan k (ids_of ls) n) once.0

pub not_opened : (image : Image) (e : OpenError) → StoreOnly {T = Unit {0}} (Err e) → OpensFiles image (Err e)
not_opened image opening.OutOfMemory h = tt
not_opened image opening.Store h = tt
not_opened image opening.CommitUnknown h = h
not_opened image (opening.Fault f) h = absurd h

-- what a refused reading of the tables says
refuses : {X : Type 0} (view : X → SeenLevels) (old mid : Image) (id : ℕ) (ls : Levels) (e : OpenError) → ((n : List ℕ) → mid n ≡ old n) → IsNamed old id ls → ((n : List ℕ) → kind_of n ≡ Refused → old n ≡ None)
    → ChecksLevels {X = X} mid view ls (Err e) → ChecksFiles old (Err e)
refuses view old mid id ls opening.OutOfMemory same named good bad = tt
refuses view old mid id ls opening.Store same named good bad = tt
refuses view old mid id ls opening.CommitUnknown same named good bad = bad
refuses view old mid id ls (opening.Fault f) same named good bad = bad_levels old mid id ls f same named good bad

pub levels_refuse : {X : Type 0} (view : X → SeenLevels) (old mid : Image) (id : ℕ) (ls ms : Levels) (e : OpenError) → ms ≡ ls → ((n : List ℕ) → mid n ≡ old n) → IsNamed old id ls → ((n : List ℕ) → kind_of n ≡ Refused → old n ≡ None)
    → ChecksLevels {X = X} mid view ms (Err e) → ChecksFiles old (Err e)
levels_refuse {X} view old mid id ls ms e is same named good bad = refuses {X = X} view old mid id ls e same named good (subst (λ (l : Levels). ChecksLevels {X = X} mid view l (Err e)) is bad)

pub tables_same : (old mid : Image) (ls ms : Levels) (ts : SeenLevels) → ((n : List ℕ) → mid n ≡ old n) → ms ≡ ls → AreTablesAt mid ms ts → AreTablesAt old ls ts
tables_same old mid ls ms ts same is at = subst (λ (l : Levels). AreTablesAt old l ts) is (subst (λ (image : Image). AreTablesAt image ms ts) (image_same old mid same) at)

-- ---- any moment of it

abbrev pub Only : World → Type 0
Only w = (image : Image) → w.since w.moment image → IsImage w.may image

-- the orphans beside what was found are those beside what is named
pub orphans_are : (image : Image) (id : ℕ) (ts : SeenLevels) (next : ℕ) (ids : List ℕ) (i : ℕ) (ls : Levels) (jd : ℕ) (jds : List ℕ) → jd ≡ id → jds ≡ ids → IsFound image id ts next ids → IsNamed image i ls → is_orphan jd jds ≡ is_orphan i (ids_of ls)
orphans_are image id ts next ids i ls jd jds same is found named =
    ap (λ (k : ℕ). is_orphan k jds) same ∙ ap (λ (x : List ℕ). is_orphan id x) is ∙ (λ k n. found_orphans image id ts next ids i ls found named n k)

-- ---- names that are looked for

pub found_there : (gives : Image) (names : List (List ℕ)) (m : List ℕ) → Lists gives names → FindsAny (λ n. bytes_eq n m) names true → IsSome (gives m)
found_there gives names m all found = subst (λ (n : List ℕ). IsSome (gives n)) ((bytes_eq-Decides found.0 m).0 found.2) ((all.each found.0).0 found.1)

pub found_not : (gives : Image) (names : List (List ℕ)) (m : List ℕ) → Lists gives names → FindsAny (λ n. bytes_eq n m) names false → gives m ≡ None
found_not gives names m all found = by_content (gives m) refl
  where
    by_content : (o : Option (List ℕ)) → gives m ≡ o → gives m ≡ None
    by_content None e = e
    by_content (Some x) e = absurd (both_ways (bytes_eq m m) (found m ((all.each m).1 (subst (λ (c : Option (List ℕ)). IsSome c) (sym e) refl))) ((bytes_eq-Decides m m).1 refl))

pub some_not_none : (o : Option (List ℕ)) → IsSome o → o ≡ None → ⊥
some_not_none None some none = absurd cc
some_not_none (Some x) some none = absurd cc

pub named_there : (image : Image) (id : ℕ) (ls : Levels) → IsNamed image id ls → IsSome (image current_name)
named_there image id ls named = subst (λ (o : Option (List ℕ)). IsSome o) (sym named.current) refl

-- ---- after a call without effect

pub listed_on : (old mid : Image) (names : List (List ℕ)) → ((n : List ℕ) → mid n ≡ old n) → Lists old names → Lists mid names
listed_on old mid names same all = subst (λ (image : Image). Lists image names) (sym (image_same old mid same)) all

pub narrows_behind : (old mid new : World) → Same old mid → Narrows mid new → Narrows old new
narrows_behind old mid new same narrows =
    let e : mid.moment ≡ old.moment = same.moment in
    let le : mid.moment ≤ new.moment = narrows.later in
    record {
      gives = λ n. narrows.gives n ∙ same.gives n;
      may = λ n c may. (same.may n c).0 (narrows.may n c may);
      later = omega (arith, e, le);
      since = λ t image early. let early2 : t ≤ mid.moment = omega (arith, early, e) in (λ left. (same.since t image early).0 ((narrows.since t image early2).0 left), λ left. (narrows.since t image early2).1 ((same.since t image early).1 left));
    }

pub on_disk_from : (old mid new : World) → Same old mid → (n : List ℕ) → IsOnDisk mid new n → IsOnDisk old new n
on_disk_from old mid new same n settled impossible c never may = settled impossible c (λ was. never ((same.may n impossible).0 was)) may ∙ same.gives n

-- ---- after calls that add no image

pub first_named_on : (old mid new : World) → Narrows old mid → ((n : List ℕ) → IsOnDisk old mid n) → IsPersisted 0 (file_of first_version) mid new → IsFirstNamed old new
first_named_on old mid new narrows settled p = record {
  gives = λ n v d. p.rest.gives n v d ∙ narrows.gives n;
  may = λ n c v d may. narrows.may n c ((p.rest.may n c v d).0 may);
  on_disk = λ n v d impossible c never may. settled n impossible c never ((p.rest.may n c v d).0 may);
  current = p.current;
  version = p.version;
}

pub old_or_new : (w : World) → Only w → LeavesOnly w w (IsOldOrNew 0 (file_of first_version) w)
old_or_new w only = started w (IsOldOrNew 0 (file_of first_version) w) (λ image left. record { elsewhere = λ n v d. only image left n; named = inl (only image left current_name) })

pub new_moment_on : (old mid new : World) → Only old → Narrows old mid → LeavesOnly mid new (IsOldOrNew 0 (file_of first_version) mid) → LeavesOnly old new (IsOldOrNew 0 (file_of first_version) old)
new_moment_on old mid new only narrows after =
    let bytes = file_of first_version in
    joined old mid new (IsOldOrNew 0 bytes old) (IsOldOrNew 0 bytes mid) (IsOldOrNew 0 bytes old)
    (narrows_on old old mid (IsOldOrNew 0 bytes old) (old_or_new old only) narrows)
    after (λ image is. is) (λ image is. record { elsewhere = λ n v d. narrows.may n (image n) (is.elsewhere n v d); named = ⊎_elim (λ was. inl (narrows.may current_name (image current_name) was)) (λ new. inr new) is.named })

-- ---- what was read is settled before a first version is made

pub old_or_begun : (w : World) → Only w → LeavesOnly w w (IsOldOrBegun w)
old_or_begun w only = started w (IsOldOrBegun w) (λ image left. inl (only image left))

pub begun_behind : (old mid new : World) → Only old → Narrows old mid → ((n : List ℕ) → IsOnDisk old mid n) → LeavesOnly mid new (IsOldOrNew 0 (file_of first_version) mid) → LeavesOnly old new (IsOldOrBegun old)
begun_behind old mid new only narrows settled after =
    joined old mid new (IsOldOrBegun old) (IsOldOrNew 0 (file_of first_version) mid) (IsOldOrBegun old)
    (narrows_on old old mid (IsOldOrBegun old) (old_or_begun old only) narrows)
    after (λ image is. is) (λ image is. inr (record {
      elsewhere = λ n v d. narrows.may n (image n) (is.elsewhere n v d);
      named = ⊎_elim (λ was. inl (λ impossible never. settled current_name impossible (image current_name) never was)) (λ new. inr new) is.named;
    }))

-- ---- what a refusal leaves

pub keeps_any : (old new : World) (e : OpenError) → Same old new → KeepsFiles {T = Opened} old new (Err e)
keeps_any old new opening.OutOfMemory same = tt
keeps_any old new opening.Store same = tt
keeps_any old new opening.CommitUnknown same = tt
keeps_any old new (opening.Fault f) same = same
