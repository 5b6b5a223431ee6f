-- Cleaning up keeps what a tree keeps.
use Rattle.std.proofs.Common.{◌≡◌, ℕ, ◌≤◌, ◌<◌, Bool, true, false, cond, ◌||◌, List, [], ◌∷◌, ◌++◌, zero, suc, Result, Option, None, Some, option_to_list, take, drop, length, refl, sym, ap, ◌∙◌, subst, arith, eqb, leb}
use Rattle.std.proofs.Math.Seq.{take-length}
use Rattle.std.proofs.lemmas.Bool.Decides.{nat_tests}
use Rattle.std.specs.List.{AllByRecursion}
use Rattle.lsm_below.specs.Each.{each_both, each_weaker}
use Rattle.lsm_below.specs.declared.error.Error.{Error}
use Rattle.lsm_store.specs.World.{World}
use Rattle.lsm_manifest.specs.Names.{table_name, version_name}
use Rattle.lsm_memtable.specs.Memtables.{SeenMemtable}
use Rattle.lsm_flush.specs.Jobs.{SeenOpen}
use Rattle.lsm_parts.specs.declared.version.super_version.SuperVersion.{SuperVersion}
use Rattle.lsm_parts.specs.History.{SeenHistory, versions_of}
use Rattle.lsm_parts.specs.Maintenance.{Forgets, KeepsVersions}
use Rattle.lsm_parts.specs.Held.{HasFirst, ids_of, FallFrom, is_among}
use Rattle.lsm_state.specs.Kept.{named_by, least_named, NamesHeld, NameHeld, NameOlder, KeepsIds, KeepsTables}
use Rattle.lsm_tables.specs.Tables.{SeenTable}
use Rattle.lsm_model.specs.Steps.{among}
use Rattle.lsm_versions.specs.Levels.{SeenVersion, all_of}
use Rattle.lsm_state.specs.Calls.{Rotates}
use Rattle.lsm_state.specs.Core.{Core, versions_left, written_of, rotated_core}
use Rattle.lsm_state.specs.Commits.{UpholdsFiles}
use Rattle.lsm_parts.specs.Held.{from_id}
use Rattle.lsm_state.specs.Cleaning.{oldest_named, AreAbsent, IsUnnamed, LeavesNoVersions}
use Rattle.lsm_state.proofs.Forgetting.{least_down, all_over, older_take}
use Rattle.lsm_state.proofs.Upholding.{upheld, among_left}

-- ---- the memtables that are left

not_same : (i n j : ℕ) → n ≤ i → leb n j ≡ false → eqb i j ≡ false
not_same i n j le h = grind (arith, nat_tests)

among_from : (n i : ℕ) (ts : List SeenMemtable) → n ≤ i → is_among (ids_of (from_id n ts)) i ≡ is_among (ids_of ts) i
among_from n i [] le = refl
among_from n i (t ∷ ts) le = by_case (among_from n i ts le) (leb n t.id) refl
  where
    by_case : is_among (ids_of (from_id n ts)) i ≡ is_among (ids_of ts) i → (b : Bool) → leb n t.id ≡ b → is_among (ids_of (cond b (t ∷ from_id n ts) (from_id n ts))) i ≡ (eqb i t.id || is_among (ids_of ts) i)
    by_case rest true e = ap (λ b. eqb i t.id || b) rest
    by_case rest false e = rest ∙ sym (ap (λ b. b || is_among (ids_of ts) i) (not_same i n t.id le e))

fall_more : (m n : ℕ) (ids : List ℕ) → m ≤ n → FallFrom m ids → FallFrom n ids
fall_more m n [] le h = tt
fall_more m n (i ∷ ids) le h = let here : i < m = h.0 in (omega (arith, le, here), h.1)

fall_from : (n m : ℕ) (ts : List SeenMemtable) → FallFrom m (ids_of ts) → FallFrom m (ids_of (from_id n ts))
fall_from n m [] h = tt
fall_from n m (t ∷ ts) h = by_case (leb n t.id) (fall_from n t.id ts h.1) (fall_from n m ts (let here : t.id < m = h.0 in fall_more t.id m (ids_of ts) (omega (arith, here)) h.1))
  where
    by_case : (b : Bool) → FallFrom t.id (ids_of (from_id n ts)) → FallFrom m (ids_of (from_id n ts)) → FallFrom m (ids_of (cond b (t ∷ from_id n ts) (from_id n ts)))
    by_case true rest more = (h.0, rest)
    by_case false rest more = more

there : (n i : ℕ) → n ≤ i → leb n i ≡ true
there n i le = grind (arith, nat_tests)

first_from : (P : SeenMemtable → Type 0) (n : ℕ) (ts : List SeenMemtable) → HasFirst ts (λ t. n ≤ t.id) → HasFirst ts P → HasFirst (from_id n ts) P
first_from P n [] le h = absurd h
first_from P n (t ∷ ts) le h = subst (λ b. HasFirst (cond b (t ∷ from_id n ts) (from_id n ts)) P) (sym (there n t.id le)) h

-- ---- ids that are named

one_held : (n : ℕ) (ts : List SeenMemtable) (ids : List ℕ) → AllByRecursion (λ i. n ≤ i) ids → AllByRecursion (λ i. is_among (ids_of ts) i ≡ true) ids → AllByRecursion (λ i. is_among (ids_of (from_id n ts)) i ≡ true) ids
one_held n ts [] over held = tt
one_held n ts (i ∷ ids) over held = (among_from n i ts over.0 ∙ held.0, one_held n ts ids over.1 held.1)

swapped : (P : ℕ → Type 0) (a : ℕ) (ids : List ℕ) → AllByRecursion P (ids ++ a ∷ []) → AllByRecursion P (a ∷ ids)
swapped P a [] h = h
swapped P a (i ∷ ids) h = let rest = swapped P a ids h.1 in (rest.0, (h.0, rest.1))

all_held : (n : ℕ) (ts : List SeenMemtable) (versions : List SuperVersion) → AllByRecursion (λ s. AllByRecursion (λ i. n ≤ i) (named_by s)) versions → NameHeld (ids_of ts) versions → NameHeld (ids_of (from_id n ts)) versions
all_held n ts [] over held = tt
all_held n ts (sv ∷ versions) over held = (one_held n ts (sv.active_memtable ∷ sv.sealed_memtables) (swapped (λ i. n ≤ i) sv.active_memtable sv.sealed_memtables over.0) held.0, all_held n ts versions over.1 held.1)

all_take : {A : Type 0} (P : A → Type 0) (k : ℕ) (xs : List A) → AllByRecursion P xs → AllByRecursion P (take k xs)
all_take P zero xs h = tt
all_take P (suc k) [] h = tt
all_take P (suc k) (x ∷ xs) h = (h.0, all_take P k xs h.1)

-- ---- a tree whose oldest super versions went

module _ (ts : List SeenMemtable) (h : SeenHistory) (next : ℕ) (ids : KeepsIds ts h next) (k : ℕ) where
  abbrev left : SeenHistory
  left = record { latest = h.latest; older = take k h.older }

  ages : NameOlder h.latest.active_memtable (versions_of left)
  ages = (ids.older.0, ids.older.1, older_take (least_named h.latest) k h.older ids.older.2)

  low : oldest_named left ≤ h.latest.active_memtable
  low =
      let down = least_down h.latest.active_memtable h.latest (take k h.older) ages in
      let top : least_named h.latest ≤ h.latest.active_memtable = ids.older.0 in
      omega (arith, down, top)

  first_over : HasFirst ts (λ t. oldest_named left ≤ t.id)
  first_over = over ts ids.active
    where
      over : (us : List SeenMemtable) → HasFirst us (λ m. m.id ≡ h.latest.active_memtable) → HasFirst us (λ t. oldest_named left ≤ t.id)
      over [] is = absurd is
      over (u ∷ us) is = subst (λ i. oldest_named left ≤ i) (sym is) low

  ids_left : KeepsIds (from_id (oldest_named left) ts) left next
  ids_left = record {
    active = first_from (λ m. m.id ≡ h.latest.active_memtable) (oldest_named left) ts first_over ids.active;
    fall = fall_from (oldest_named left) next ts ids.fall;
    held = all_held (oldest_named left) ts (versions_of left) (all_over h.latest.active_memtable h.latest (take k h.older) ages) (ids.held.0, all_take (NamesHeld (ids_of ts)) k h.older ids.held.1);
    older = ages;
  }

-- a tree of which none went
module _ (ts : List SeenMemtable) (h : SeenHistory) (next : ℕ) (ids : KeepsIds ts h next) where
  abbrev with_older : List SuperVersion → SeenHistory
  with_older older = record { latest = h.latest; older = older }

  pub active_first : HasFirst ts (λ t. oldest_named h ≤ t.id)
  active_first = subst (λ o. HasFirst ts (λ t. oldest_named (with_older o) ≤ t.id)) (take-length h.older) (first_over ts h next ids (length h.older))

  pub ids_named : KeepsIds (from_id (oldest_named h) ts) h next
  ids_named = subst (λ o. KeepsIds (from_id (oldest_named (with_older o)) ts) (with_older o) next) (take-length h.older) (ids_left ts h next ids (length h.older))

-- what maintenance leaves
module _ (w : ℕ) (r : Result (Unit {0}) Error) (h new : SeenHistory) (f : Forgets w r h new) where
  is_left : new ≡ record { latest = h.latest; older = take (length new.older) h.older }
  is_left = ap (λ l. record { latest = l; older = new.older }) f.latest ∙ ap (λ o. record { latest = h.latest; older = o }) f.older

  pub active_over : (ts : List SeenMemtable) (next : ℕ) → KeepsIds ts h next → HasFirst ts (λ t. oldest_named new ≤ t.id)
  active_over ts next ids = subst (λ n. HasFirst ts (λ t. oldest_named n ≤ t.id)) (sym is_left) (first_over ts h next ids (length new.older))

  pub ids_cleaned : (ts : List SeenMemtable) (next : ℕ) → KeepsIds ts h next → KeepsIds (from_id (oldest_named new) ts) new next
  ids_cleaned ts next ids = subst (λ n. KeepsIds (from_id (oldest_named n) ts) n next) (sym is_left) (ids_left ts h next ids (length new.older))

  pub tables_cleaned : (flush : Option SeenOpen) (next : ℕ) → KeepsTables flush h next → KeepsTables flush new next
  tables_cleaned flush next k = subst (λ n. KeepsTables flush n next) (sym is_left) (record { own_ids = k.own_ids; below = k.below; aged = all_take (λ sv. sv.version.id < h.latest.version.id) (length new.older) h.older k.aged })

-- ---- the files

pub cleaned_upholds : (w w' : World) (old new : Core) → new.history.latest ≡ old.history.latest → new.lost ≡ old.lost → new.flush ≡ old.flush → KeepsVersions old.history.latest.version.id w w' → old.lost ≡ None → UpholdsFiles w w' old new
cleaned_upholds w w' old new latest lost flush keeps certain stored =
    let id = old.history.latest.version.id in
    let one : versions_left old ≡ old.history.latest.version ∷ [] = ap (λ o. old.history.latest.version ∷ option_to_list o) certain in
    let le : id ≤ id = omega arith in
    let kept = keeps (versions_left old) (written_of old) stored (subst (AllByRecursion (λ v. id ≤ v.id)) (sym one) (le, tt)) in
    upheld w w' old new (versions_left old) (written_of old) (versions_left old) (ap (λ sv. sv.version ∷ option_to_list new.lost) latest ∙ ap (λ o. old.history.latest.version ∷ option_to_list o) lost) (ap (λ f. written_of (record old { flush = f })) flush) kept.0 kept.1 (among_left (versions_left old) (versions_left old))

each_dropped : {A : Type 0} (P : A → Type 0) (n : ℕ) (xs : List A) → AllByRecursion P xs → AllByRecursion P (drop n xs)
each_dropped P zero xs all = all
each_dropped P (suc n) [] all = tt
each_dropped P (suc n) (x ∷ xs) all = each_dropped P n xs all.1

-- the files of the versions of super versions that went, where all of them are below the latest one
pub gone_versions : (w v : World) (latest : ℕ) (svs : List SuperVersion) (n : ℕ) → AllByRecursion (λ sv. sv.version.id < latest) svs → AllByRecursion (λ sv. sv.version.id < latest → w.gives (version_name sv.version.id) ≡ None) (drop n svs)
    → ((i : ℕ) → v.gives (version_name i) ≡ w.gives (version_name i)) → AllByRecursion (λ sv. v.gives (version_name sv.version.id) ≡ None) (drop n svs)
gone_versions w v latest svs n low gone same = each_both (λ sv. sv.version.id < latest) (λ sv. sv.version.id < latest → w.gives (version_name sv.version.id) ≡ None) (λ sv. v.gives (version_name sv.version.id) ≡ None) (λ sv lt was. same sv.version.id ∙ was lt) (drop n svs)
    (each_dropped (λ sv. sv.version.id < latest) n svs low) gone

-- a rotation before changes no version
pub same_versions : (w : World) (a b : SuperVersion) (svs : List SuperVersion) (n : ℕ) → a.version ≡ b.version → AllByRecursion (λ sv. w.gives (version_name sv.version.id) ≡ None) (drop n (a ∷ svs)) → AllByRecursion (λ sv. w.gives (version_name sv.version.id) ≡ None) (drop n (b ∷ svs))
same_versions w a b svs zero is all = (subst (λ (v : SeenVersion). w.gives (version_name v.id) ≡ None) is all.0, all.1)
same_versions w a b svs (suc n) is all = all

pub rotated_leaves : (w : World) (old mid : Core) (id : Option ℕ) (new : SeenHistory) → Rotates old id mid → LeavesNoVersions w mid.history new → LeavesNoVersions w old.history new
rotated_leaves w old mid None new r left = subst (λ (c : Core). LeavesNoVersions w c.history new) r.1 left
rotated_leaves w old mid (Some id) new r left = same_versions w (rotated_core old).history.latest old.history.latest old.history.older (length new.older) refl (subst (λ (c : Core). LeavesNoVersions w c.history new) r.2 left)

-- the files of the tables that the new version doesn't name, where those of these ids are absent
pub gone_tables : (w : World) (gone : List ℕ) (v u : SeenVersion) (tables : List SeenTable) → u ≡ v → AllByRecursion (λ t. IsUnnamed (all_of v.levels) t.id → among gone t.id ≡ true) tables → AreAbsent w gone
    → AllByRecursion (λ t. IsUnnamed (all_of u.levels) t.id → w.gives (table_name t.id) ≡ None) tables
gone_tables w gone v u tables is covers absent =
    subst (λ (x : SeenVersion). AllByRecursion (λ t. IsUnnamed (all_of x.levels) t.id → w.gives (table_name t.id) ≡ None) tables) (sym is)
    (each_weaker (λ t. IsUnnamed (all_of v.levels) t.id → among gone t.id ≡ true) (λ t. IsUnnamed (all_of v.levels) t.id → w.gives (table_name t.id) ≡ None) (λ t covered unnamed. absent t.id (covered unnamed)) tables covers)
