-- The tables that a merge made, and the version that has them in place of its inputs.
use Rattle.std.proofs.Common.{◌≡◌, ℕ, ◌+◌, ◌<◌, ◌≤◌, ◌^◌, Bool, true, false, List, [], ◌∷◌, ◌++◌, map, length, zero, suc, eqb, eq-eqb, ⊎_elim, ◌⊎◌, inl, inr, ◌||◌, Ok, Err, IsErrOf, refl, sym, ap, ◌∙◌, subst, arith}
use Rattle.std.specs.Prelude.{nat_eq}
use Rattle.std.specs.List.{AllByRecursion, IsDistinct, list_any, range_with_len}
use Rattle.std.specs.List.Sorted.{IsPermutation}
use Rattle.std.proofs.lemmas.Bool.{eqb-true}
use Rattle.std.proofs.lemmas.Bool.Decides.{nat_tests}
use Rattle.lsm_below.specs.Each.{each_left, each_right, each_weaker}
use Rattle.lsm_below.specs.Optimizes.{tables_of}
use Rattle.lsm_below.specs.declared.error.Error.{Error}
use Rattle.lsm_below.specs.declared.error.Error.TheVariants.{OutOfMemory, Store, CommitUnknown, OutOfNumbers, TooManyRuns, AfterCommit}
use Rattle.lsm_store.specs.World.{World}
use Rattle.lsm_tables.specs.Tables.{SeenTable}
use Rattle.lsm_model.specs.Views.{IsLaidOut}
use Rattle.lsm_model.specs.Steps.{among, AllCover}
use Rattle.lsm_model.proofs.Counted.{or_true}
use Rattle.lsm_versions.specs.Levels.{SeenVersion, HasOwnIds, IsNext, PutBetween, all_of, left_in, placed_in, placed_of, shown_table}
use Rattle.lsm_versions.specs.Refusals.{IsRefusedFor}
use Rattle.lsm_versions.specs.Installs.{ChangesKeepTables}
use Rattle.lsm_commit.specs.Stored.{AreOnDisk}
use Rattle.lsm_commit.specs.Contents.{AreWritten, FilesAreTables}
use Rattle.lsm_checks.specs.Choices.{IsAmong, AllStand}
use Rattle.lsm_compaction.specs.Merges.{SeenCompaction, IsJob, AreTablesOf}
use Rattle.lsm_state.specs.Core.{Core, written_of}
use Rattle.lsm_state.specs.Kept.{IsKeptTree}
use Rattle.lsm_state.specs.Commits.{Upholds, counted}
use Rattle.lsm_state.specs.Settling.{MaySettle, HasItsTables, Settles, IsInstalled, IsDoubted}
use Rattle.lsm_state.specs.Flushes.{with_next_table}
use Rattle.lsm_state.specs.Compactions.{levels_of, HoldsMerged, AreMerged, MayMerge, IsMergedInto, DrawsFor, InstallsMerge, closed}
use Rattle.lsm_state.proofs.Choices.{may_settle, has_tables}
use Rattle.lsm_state.proofs.Replacing.{IsApart, parts_apart, own_first, own_apart, others_left, swapped, spared, other_than, apart_none, covered}
use Rattle.lsm_state.proofs.Distinct.{own_behind}
use Rattle.lsm_state.proofs.Writing.{own_joined}

-- ---- the tables

own_range : (n len : ℕ) → IsDistinct nat_eq (range_with_len n len)
unfolding IsDistinct
own_range n zero = tt
own_range n (suc len) = (others n (n + 1) len (omega arith), own_range (n + 1) len)
  where
    others : (i m k : ℕ) → i < m → AllByRecursion (λ j. nat_eq i j ≡ false) (range_with_len m k)
    others i m zero lt = tt
    others i m (suc k) lt = (grind (arith, nat_tests), others i (m + 1) k (omega (arith, lt)))

from_range : (n len : ℕ) → AllByRecursion (λ i. n ≤ i) (range_with_len n len)
from_range n len = above n n len (omega arith)
  where
    above : (n m k : ℕ) → n ≤ m → AllByRecursion (λ i. n ≤ i) (range_with_len m k)
    above n m zero le = tt
    above n m (suc k) le = (le, above n (m + 1) k (omega (arith, le)))

below_range : (n len : ℕ) → AllByRecursion (λ i. i < n + len) (range_with_len n len)
below_range n zero = tt
below_range n (suc len) = (omega arith, each_weaker (λ i. i < n + 1 + len) (λ i. i < n + suc len) (λ i lt. omega (arith, lt)) (range_with_len (n + 1) len) (below_range (n + 1) len))

-- what holds of the ids of tables
of_ids : (P : ℕ → Type 0) (ts : List SeenTable) → AllByRecursion P (map (λ t. t.id) ts) → AllByRecursion (λ t. P t.id) ts
of_ids P [] h = tt
of_ids P (t ∷ ts) h = (h.0, of_ids P ts h.1)

module _ (job : SeenCompaction) (contents : List (List ℕ)) (ids : List ℕ) (tables : List SeenTable) (made : AreTablesOf job contents ids tables) where
  pub holds : HoldsMerged job tables
  holds = record { kept = made.kept; keeps = made.keeps; cut = made.cut; made = made.files.made }

  -- under the next ids of a tree
  module _ (c : Core) (kept : IsKeptTree c) (is : ids ≡ range_with_len c.next_table (length contents)) (fit : AllByRecursion (λ i. i < 2 ^ 63) ids) where
    abbrev before : List SeenTable
    before = written_of c ++ all_of (levels_of c)

    ids_are : map (λ t. t.id) tables ≡ range_with_len c.next_table (length contents)
    ids_are = made.files.ids ∙ is

    own_tables : HasOwnIds tables
    own_tables = subst (IsDistinct nat_eq) (sym ids_are) (own_range c.next_table (length contents))

    pub above : AllByRecursion (λ t. c.next_table ≤ t.id) tables
    above = of_ids (λ i. c.next_table ≤ i) tables (subst (AllByRecursion (λ i. c.next_table ≤ i)) (sym ids_are) (from_range c.next_table (length contents)))

    own_with : (ts : List SeenTable) → HasOwnIds ts → AllByRecursion (λ t. c.next_table ≤ t.id) ts → AllByRecursion (λ t. t.id < 2 ^ 63) ts → HasOwnIds (ts ++ before)
    own_with [] own up low = kept.tables.own_ids
    own_with (t ∷ ts) own up low = own_joined c.next_table (t ∷ ts) before own kept.tables.own_ids up (kept.tables.below (omega (arith, up.0, low.0)))

    pub merged : (next : ℕ) → next ≡ c.next_table + length contents → AreMerged job (with_next_table next c) tables
    merged next is_next = record {
      holds = holds;
      run = made.run;
      own_ids = own_with tables own_tables above (of_ids (λ i. i < 2 ^ 63) tables (subst (AllByRecursion (λ i. i < 2 ^ 63)) (sym made.files.ids) fit));
      below = λ lt. of_ids (λ i. i < next) tables (subst (AllByRecursion (λ i. i < next)) (sym ids_are) (subst (λ m. AllByRecursion (λ i. i < m) (range_with_len c.next_table (length contents))) (sym is_next) (below_range c.next_table (length contents))));
    }

  -- their files are written
  pub on_disk : (w : World) → FilesAreTables w → AreWritten w ids contents → job.settings.made_at < 2 ^ 64 → AreOnDisk w tables
  on_disk w law written fits =
      law ids contents tables written made.files.ids made.files.spelled made.files.each (each_weaker (λ t. t.created_at ≡ job.settings.made_at) (λ t. t.created_at < 2 ^ 64) (λ t e. omega (arith, e, fits)) tables made.files.made)

-- ---- the version

id_in : (ts : List SeenTable) (t : SeenTable) → IsAmong ts t → list_any (λ u. eqb u.id t.id) ts ≡ true
id_in [] t h = absurd h
id_in (u ∷ ts) t h = ⊎_elim
    (λ (e : shown_table u ≡ shown_table t). ap (λ b. b || list_any (λ x. eqb x.id t.id) ts) (eq-eqb u.id t.id (ap (λ x. x.id) e)))
    (λ m. ap (λ b. eqb u.id t.id || b) (id_in ts t m) ∙ or_true (eqb u.id t.id)) h

-- the id of an input is that of a table that is still there
there_one : (levels : List (List (List SeenTable))) (j : ℕ) (ts : List SeenTable) → AllStand levels ts → among (map (λ t. t.id) ts) j ≡ true → list_any (λ u. eqb u.id j) (all_of levels) ≡ true
there_one levels j [] s m = absurd (cc m)
there_one levels j (t ∷ ts) s m = by_first (there_one levels j ts s.1) (eqb j t.id) refl m
  where
    by_first : (among (map (λ u. u.id) ts) j ≡ true → list_any (λ u. eqb u.id j) (all_of levels) ≡ true) → (b : Bool) → eqb j t.id ≡ b → (b || among (map (λ u. u.id) ts) j) ≡ true → list_any (λ u. eqb u.id j) (all_of levels) ≡ true
    by_first others true e more = subst (λ n. list_any (λ u. eqb u.id n) (all_of levels) ≡ true) (sym (eqb-true j t.id e)) (id_in (all_of levels) t s.0)
    by_first others false e more = others more

there_all : (levels : List (List (List SeenTable))) (inputs : List SeenTable) (ids : List ℕ) → AllStand levels inputs → ((i : ℕ) → among ids i ≡ true → among (map (λ t. t.id) inputs) i ≡ true) → AllByRecursion (λ j. list_any (λ u. eqb u.id j) (all_of levels) ≡ true) ids
there_all levels inputs [] stand h = tt
there_all levels inputs (j ∷ ids) stand h = (
  there_one levels j inputs stand (h j (ap (λ b. b || among ids j) (eq-eqb j j refl))),
  there_all levels inputs ids stand (λ i m. h i (ap (λ b. eqb i j || b) m ∙ or_true (eqb i j))),
)

-- what is made of a version, with a run of tables in place of those of some ids
pub record Makes (tables : List SeenTable) (v : SeenVersion) (ids : List ℕ) (to : ℕ) (latest : SeenVersion) : Type 0 where
  pub next : IsNext ids tables to 0 latest v
  pub covers : AllCover (placed_in to tables)
  pub placed : PutBetween ids tables to latest.levels v.levels

abbrev pub MakesFor : SeenCompaction → Core → List SeenTable → SeenVersion → Type 0
MakesFor job c tables v = Makes tables v job.ids job.settings.dest_level c.history.latest.version

pub made_at : (job : SeenCompaction) (c : Core) (tables : List SeenTable) (v : SeenVersion) (ids : List ℕ) (to : ℕ) (latest : SeenVersion) → ids ≡ job.ids → to ≡ job.settings.dest_level → latest ≡ c.history.latest.version → Makes tables v ids to latest → MakesFor job c tables v
made_at job c tables v ids to latest ids_are level is m =
    subst (Makes tables v job.ids job.settings.dest_level) is (subst (λ n. Makes tables v job.ids n latest) level (subst (λ i. Makes tables v i to latest) ids_are m))

-- tables that stand in no version yet
pub new_beside : (c : Core) (job : SeenCompaction) (tables : List SeenTable) → AreMerged job c tables → HasOwnIds (tables ++ all_of (levels_of c))
new_beside c job tables made =
    let before = written_of c ++ all_of (levels_of c) in
    own_apart tables (all_of (levels_of c)) (own_first tables before made.own_ids) (own_behind (written_of c) (all_of (levels_of c)) (own_behind tables before made.own_ids))
    (each_right (IsApart tables) (written_of c) (all_of (levels_of c)) (parts_apart tables before made.own_ids))

pub merged_into : (c : Core) (job : SeenCompaction) → MayMerge job c → (tables : List SeenTable) → AreMerged job c tables → (v : SeenVersion) → MakesFor job c tables v → IsLaidOut (placed_of v.levels) → HasOwnIds (all_of v.levels) → (first : ℕ) → AllByRecursion (λ t. first ≤ t.id) tables → IsMergedInto first job c.history.latest.version v
merged_into c job may tables merged v makes laid own first fresh = record { run = tables; holds = merged.holds; fresh = fresh; next = makes.next; allowed = may.allowed; same = may.same; covers = makes.covers; placed = makes.placed; laid = laid; own_ids = own }

module _ (c : Core) (kept : IsKeptTree c) (law : ChangesKeepTables) (job : SeenCompaction) (is_job : IsJob job) (may : MayMerge job c) (tables : List SeenTable) (made : AreMerged job c tables) (v : SeenVersion) (makes : MakesFor job c tables v) (own : HasOwnIds (all_of v.levels)) where
  abbrev now : List SeenTable
  now = all_of (levels_of c)

  same : IsPermutation (tables ++ left_in job.ids now) (all_of v.levels)
  same = law job.ids tables job.settings.dest_level (levels_of c) v.levels makes.next.levels (omega (arith, may.level, kept.laid.0.seven))

  there : AllByRecursion (λ j. list_any (λ u. eqb u.id j) now ≡ true) job.ids
  there = there_all (levels_of c) (tables_of job.inputs) job.ids may.stands (λ i m. sym (is_job.ids i) ∙ m)

  -- the new tables are apart from those that were there
  apart_from : (P : SeenTable → Type 0) → ((t : SeenTable) → IsApart (written_of c ++ now) t → P t) → AllByRecursion P tables
  apart_from P f = each_weaker (IsApart (written_of c ++ now)) P f tables (swapped tables (written_of c ++ now) (parts_apart tables (written_of c ++ now) made.own_ids))

  pub merged_settles : MaySettle v job.ids c
  merged_settles =
      may_settle c kept may.certain job.ids tables v same job.ids makes.next.id own made.below (apart_from (IsApart (written_of c)) (λ t a. each_left (λ u. eqb u.id t.id ≡ false) (written_of c) now a))
      (spared job.ids c.flush c.history c.next_table kept.tables there)
      (others_left job.ids tables c.history v same (apart_from (λ t. among job.ids t.id ≡ false) (λ t a. other_than job.ids now t.id there (apart_none now t (each_right (λ u. eqb u.id t.id ≡ false) (written_of c) now a)))))
      (covered job.ids tables c.history v same)

  pub merged_on_disk : (w : World) → AreOnDisk w tables → HasItsTables w c v
  merged_on_disk w disk = has_tables c kept may.certain job.ids tables v same w (λ stored. disk)

-- ---- outcomes

-- a job is closed, or was not open
pub spent_upholds : (w : World) (old new : Core) (n : ℕ) (found : Bool) → (found ≡ true → new ≡ closed n old) → (found ≡ false → new ≡ old) → Upholds w w old old → Upholds w w old new
spent_upholds w old new n true closes other up = subst (Upholds w w old) (sym (closes refl)) (record { files = up.files; passes = up.passes })
spent_upholds w old new n false closes other up = subst (Upholds w w old) (sym (other refl)) up

-- which keeps what a close keeps
pub spent_stays : {A : Type 0} (of : Core → A) (old new : Core) (n : ℕ) (found : Bool) → of (closed n old) ≡ of old → (found ≡ true → new ≡ closed n old) → (found ≡ false → new ≡ old) → of new ≡ of old
spent_stays of old new n true stays closes other = ap of (closes refl) ∙ stays
spent_stays of old new n false stays closes other = ap of (other refl)

-- the counter has no number
pub unnumbered : {T : Type 0} (job : SeenCompaction) (old : Core) → DrawsFor job old.next_table old.next_table → 2 ^ 63 ≤ old.seqno → InstallsMerge {T = T} job (Err OutOfNumbers) old old
unnumbered job old draws great = record {
  table = old.next_table;
  rises = omega arith;
  draws = draws;
  settles = record { ok = tt; after = λ h. cc h; unknown = λ h. cc h; before = λ h. refl; store = λ h. cc h; memory = λ h. cc h };
  out_of_numbers = λ h. inl great;
  too_many_runs = λ h. cc h;
  numbered = λ h. cc h;
  only = inr (inl refl);
}

-- it was installed, and all was cleaned up
pub settled : {T : Type 0} {x : T} (job : SeenCompaction) (old new mid : Core) (v : SeenVersion) → old.next_table ≤ mid.next_table → DrawsFor job old.next_table mid.next_table → mid ≡ with_next_table mid.next_table old → IsMergedInto old.next_table job old.history.latest.version v
    → IsInstalled v job.settings.watermark true mid new → InstallsMerge {T = T} job (Ok x) old new
settled job old new mid v rises draws is made installed = record {
  table = mid.next_table;
  rises = rises;
  draws = draws;
  settles = record {
    ok = (v, made, subst (λ (k : Core). IsInstalled v job.settings.watermark true k new) is installed);
    after = λ h. cc h;
    unknown = λ h. cc h;
    before = ⊎_elim (λ h. cc h) (λ h. cc h);
    store = λ h. cc h;
    memory = λ h. cc h;
  };
  out_of_numbers = λ h. cc h;
  too_many_runs = λ h. cc h;
  numbered = λ h. cc h;
  only = tt;
}

module _ {T : Type 0} (job : SeenCompaction) (e : Error) (old new : Core) where
  -- files weren't written
  pub unwritten : old.next_table ≤ new.next_table → DrawsFor job old.next_table new.next_table → new ≡ with_next_table new.next_table old → ((e ≡ OutOfMemory) ⊎ (e ≡ Store)) ⊎ (e ≡ OutOfNumbers) → (e ≡ OutOfNumbers → 2 ^ 63 ≤ new.next_table) → InstallsMerge {T = T} job (Err e) old new
  unwritten rises draws is only numbers = record {
    table = new.next_table;
    rises = rises;
    draws = draws;
    settles = record {
      ok = tt;
      after = λ h. ⊎_elim (⊎_elim (λ (m : e ≡ OutOfMemory). cc (h, m)) (λ (m : e ≡ Store). cc (h, m))) (λ (m : e ≡ OutOfNumbers). cc (h, m)) only;
      unknown = λ h. ⊎_elim (⊎_elim (λ (m : e ≡ OutOfMemory). cc (h, m)) (λ (m : e ≡ Store). cc (h, m))) (λ (m : e ≡ OutOfNumbers). cc (h, m)) only;
      before = λ h. is;
      store = λ h. inl is;
      memory = λ h. inl is;
    };
    out_of_numbers = λ h. inr (inl (numbers (is_error OutOfNumbers h)));
    too_many_runs = λ h. ⊎_elim (⊎_elim (λ (m : e ≡ OutOfMemory). cc (h, m)) (λ (m : e ≡ Store). cc (h, m))) (λ (m : e ≡ OutOfNumbers). cc (h, m)) only;
    numbered = λ h. ⊎_elim (⊎_elim (λ (m : e ≡ OutOfMemory). cc (h, m)) (λ (m : e ≡ Store). cc (h, m))) (λ (m : e ≡ OutOfNumbers). cc (h, m)) only;
    only = ⊎_elim (⊎_elim (λ (m : e ≡ OutOfMemory). inl (inl m)) (λ (m : e ≡ Store). inl (inr (inl m)))) (λ (m : e ≡ OutOfNumbers). inr (inl m)) only;
  }
    where
      is_error : (f : Error) → IsErrOf {T = T} (Err e) f → e ≡ f
      is_error f h = cc h

  -- no version was made
  pub unmade : (tables : List SeenTable) → old.seqno < 2 ^ 63 → old.next_table ≤ new.next_table → DrawsFor job old.next_table new.next_table → new ≡ with_next_table new.next_table old → HoldsMerged job tables → IsRefusedFor job.ids tables job.settings.dest_level old.history.latest.version e → InstallsMerge {T = T} job (Err e) old new
  unmade tables small rises draws is holds refused = record {
    table = new.next_table;
    rises = rises;
    draws = draws;
    settles = record {
      ok = tt;
      after = λ h. none AfterCommit h (subst (IsRefusedFor job.ids tables job.settings.dest_level old.history.latest.version) (is_error AfterCommit h) refused);
      unknown = λ h. none CommitUnknown h (subst (IsRefusedFor job.ids tables job.settings.dest_level old.history.latest.version) (is_error CommitUnknown h) refused);
      before = λ h. is;
      store = λ h. inl is;
      memory = λ h. inl is;
    };
    out_of_numbers = λ h. inr (inr (subst (IsRefusedFor job.ids tables job.settings.dest_level old.history.latest.version) (is_error OutOfNumbers h) refused));
    numbered = λ h. small;
    too_many_runs = λ h. (tables, holds, subst (IsRefusedFor job.ids tables job.settings.dest_level old.history.latest.version) (is_error TooManyRuns h) refused);
    only = kind e refused;
  }
    where
      is_error : (f : Error) → IsErrOf {T = T} (Err e) f → e ≡ f
      is_error f h = cc h

      none : {A : Type 0} (f : Error) → IsErrOf {T = T} (Err e) f → ⊥ → A
      none f h no_way = absurd no_way

      kind : (f : Error) → IsRefusedFor job.ids tables job.settings.dest_level old.history.latest.version f → ((f ≡ OutOfMemory) ⊎ ((f ≡ Store) ⊎ (f ≡ CommitUnknown))) ⊎ ((f ≡ OutOfNumbers) ⊎ ((f ≡ TooManyRuns) ⊎ (f ≡ AfterCommit)))
      kind OutOfMemory r = inl (inl refl)
      kind OutOfNumbers r = inr (inl refl)
      kind TooManyRuns r = inr (inr (inl refl))
      kind _ r = absurd r

  -- it wasn't installed, or not wholly
  pub unsettled : (mid : Core) (v : SeenVersion) → old.next_table ≤ mid.next_table → DrawsFor job old.next_table mid.next_table → mid ≡ with_next_table mid.next_table old → IsMergedInto old.next_table job old.history.latest.version v → Settles v job.settings.watermark (Err e) mid new → InstallsMerge {T = T} job (Err e) old new
  unsettled mid v rises draws is made s = record {
    table = mid.next_table;
    rises = rises;
    draws = draws;
    settles = record {
      ok = tt;
      after = λ h. let one = s.after (ap Err (is_error AfterCommit h)) in (v, made, one.0, subst (λ k. IsInstalled v job.settings.watermark one.0 k new) is one.1);
      unknown = λ h. (v, made, subst (λ k. IsDoubted v k new) is (s.unknown (ap Err (is_error CommitUnknown h))));
      before = ⊎_elim (λ (h : IsErrOf {T = T} (Err e) OutOfNumbers). (s.numbers (ap Err (is_error OutOfNumbers h))).0 ∙ is) (λ (h : IsErrOf {T = T} (Err e) TooManyRuns). none (is_error TooManyRuns h) s.only);
      store = λ h. inr (s.store (ap Err (is_error Store h)) ∙ ap counted is);
      memory = λ h. ⊎_elim (λ (m : new ≡ mid). inl (m ∙ is)) (λ (m : new ≡ counted mid). inr (m ∙ ap counted is)) (s.memory (ap Err (is_error OutOfMemory h)));
    };
    out_of_numbers = λ h. inl (subst (λ k. 2 ^ 63 ≤ k.seqno) is (s.numbers (ap Err (is_error OutOfNumbers h))).1);
    too_many_runs = λ h. none (is_error TooManyRuns h) s.only;
    numbered = λ h. none (is_error TooManyRuns h) s.only;
    only = ⊎_elim (λ m. inl m) (⊎_elim (λ (m : e ≡ OutOfNumbers). inr (inl m)) (λ (m : e ≡ AfterCommit). inr (inr (inr m)))) s.only;
  }
    where
      is_error : (f : Error) → IsErrOf {T = T} (Err e) f → e ≡ f
      is_error f h = cc h

      none : {A : Type 0} → e ≡ TooManyRuns → ((e ≡ OutOfMemory) ⊎ ((e ≡ Store) ⊎ (e ≡ CommitUnknown))) ⊎ ((e ≡ OutOfNumbers) ⊎ (e ≡ AfterCommit)) → A
      none h = ⊎_elim (⊎_elim (λ (m : e ≡ OutOfMemory). cc (h, m)) (⊎_elim (λ (m : e ≡ Store). cc (h, m)) (λ (m : e ≡ CommitUnknown). cc (h, m)))) (⊎_elim (λ (m : e ≡ OutOfNumbers). cc (h, m)) (λ (m : e ≡ AfterCommit). cc (h, m)))

-- the tables that were written make it up, of the job itself and of the tree before them
pub merged_from : (first : ℕ) (list tables : List SeenTable) (v : SeenVersion) (lent job : SeenCompaction) (c old : Core) → list ≡ tables → AllByRecursion (λ t. first ≤ t.id) tables → ((n : ℕ) → AllByRecursion (λ t. n ≤ t.id) list → IsMergedInto n lent c.history.latest.version v) → lent ≡ job → c ≡ old → IsMergedInto first job old.history.latest.version v
merged_from first list tables v lent job c old same fresh made is core =
    subst (λ k. IsMergedInto first job k.history.latest.version v) core (subst (λ j. IsMergedInto first j c.history.latest.version v) is (made first (subst (AllByRecursion (λ (t : SeenTable). first ≤ t.id)) (sym same) fresh)))
