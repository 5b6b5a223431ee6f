-- A logged tree that is opened.
use Rattle.std.proofs.Common.{◌≡◌, ◌≢◌, ◌⊎◌, ⊎_elim, inl, inr, ℕ, ◌<◌, ◌≤◌, ◌^◌, max, Bool, true, false, List, [], ◌∷◌, ◌++◌, map, reverse, Contains, Option, Some, None, IsSome, refl, sym, ap, ◌∙◌, subst, arith}
use Rattle.std.specs.Prelude.{nat_lt}
use Rattle.std.specs.List.{All, AllByRecursion}
use Rattle.std.proofs.lemmas.Bool.Decides.{nat_tests}
use Rattle.std.proofs.lemmas.List.Elements.{All-weaker, All-contains, All-from_recursion, All-head, All-tail, Contains-append_right}
use Rattle.std.proofs.lemmas.List.Concat.{flat_map-cons}
use Rattle.lsm_below.specs.Each.{each_append, each_left}
use Rattle.lsm_below.specs.Entries.{above}
use Rattle.lsm_below.specs.Numbers.{PlainNumbersAreRead}
use Rattle.lsm_below.specs.Sums.{capped}
use Rattle.lsm_store.specs.World.{Image, World, IsOnDisk, LeavesOnly}
use Rattle.lsm_store.specs.Moments.{joined}
use Rattle.lsm_model.specs.Steps.{Run, Wrote}
use Rattle.lsm_model.specs.Views.{held}
use Rattle.lsm_model.specs.declared.journal.JournalEntry.TheVariants.{Write}
use Rattle.lsm_versions.specs.declared.config.Config.{Config}
use Rattle.lsm_versions.specs.Configs.{raised}
use Rattle.lsm_versions.specs.Levels.{SeenVersion, placed_of}
use Rattle.lsm_manifest.specs.declared.found.Found.{Found}
use Rattle.lsm_manifest.specs.declared.opening.Opened.{Opened}
use Rattle.lsm_manifest.specs.Finding.{Finds, Named}
use Rattle.lsm_manifest.specs.Names.{current_name}
use Rattle.lsm_manifest.specs.Looking.{FindsIn, IsFoundIn}
use Rattle.lsm_manifest.specs.Versions.{first_version}
use Rattle.lsm_manifest.specs.Opening.{IsFound, ReadsFrom}
use Rattle.lsm_commit.specs.Foreign.{IsForeign, KeepsForeign, Passes}
use Rattle.lsm_log.specs.declared.record.Record.{Record}
use Rattle.lsm_log.specs.declared.kinds.LogName.TheVariants.{Refused}
use Rattle.lsm_log.specs.LogNames.{record_name, kind_of}
use Rattle.lsm_log.specs.Changes.{IsBelow, IsOneOf, IsNoneOf, ClearsRecords, AreCleared}
use Rattle.lsm_log.specs.Logs.{IsLogFrom, IsRecordAt}
use Rattle.lsm_log_model.specs.Records.{LogImage, LogStands, entries_of, entries_in, counted, opened_by}
use Rattle.lsm_model.specs.Ops.{op_entries}
use Rattle.lsm_model.proofs.Above.{above_each}
use Rattle.lsm_log_model.specs.Logs.{Logged as Log, MayBeDrawn}
use Rattle.lsm_log_model.specs.Replays.{IsReopened, ReplaysReopen, logged_tree}
use Rattle.lsm_log_model.specs.Joins.{CounterStaysAbove}
use Rattle.lsm_log_model.proofs.Stacks.{above-append}
use Rattle.lsm_log_model.proofs.Batches.{each_entries, each_reverse, since_all}
use Rattle.lsm_state.specs.Core.{Core, state_of, opened_core, written_all}
use Rattle.lsm_state.specs.Deeds.{saved_of, OpenedIsFresh}
use Rattle.lsm_state.proofs.Steps.{write_run}
use Rattle.lsm_logged.specs.Keeping.{AreRecordNumbers, IsLogOf, IsRecordFile, IsNoNumber}
use Rattle.lsm_logged.specs.Removing.{IsOldOrPassed, HasOldOrPassed}
use Rattle.lsm_logged.specs.Opening.{entries_read, batch_read, image_read, IsJustAbove, IsNextTable, Replays, TakesLog, CanBeSettled, IsReopenedLog}
use Rattle.lsm_logged.proofs.Known.{is_known_or_not}
use Rattle.lsm_logged.proofs.LogNames.{apart, none_below, record_is_foreign, refused_is_foreign}
use Rattle.lsm_logged.proofs.Replaying.{small_each}

-- ---- what was found

reaches_or_not : (from k : ℕ) → (from ≤ k) ⊎ (k < from)
reaches_or_not from k = elim (nat_lt k from) as (λ t. nat_lt k from ≡ t → (from ≤ k) ⊎ (k < from)) [ true ↦ λ e. inr (grind (arith, nat_tests)) | false ↦ λ e. inl (grind (arith, nat_tests)) ] refl

-- it is a new tree without `current`, and else has the tables that the image has
pub fresh_in : (image : Image) (f : Found) → IsFoundIn image f → image current_name ≡ None → f.opened.version ≡ first_version
fresh_in image f is none = by_kind f.is_new is.finds
  where
    by_kind : (is_new : Bool) → FindsIn is_new image f → f.opened.version ≡ first_version
    by_kind true finds = ap (λ (o : Opened). o.version) finds.1
    by_kind false finds = let named = finds.named in absurd (cc (sym none ∙ named.current))

pub found_in : (image : Image) (f : Found) → IsFoundIn image f → IsSome (image current_name) → Finds image f.opened.version.levels
found_in image f is there = by_kind f.is_new is.finds
  where
    by_kind : (is_new : Bool) → FindsIn is_new image f → Finds image f.opened.version.levels
    by_kind true finds = let no = subst (λ (c : Option (List ℕ)). IsSome c) finds.0 there in absurd (cc no)
    by_kind false finds = Named f.opened.version.id finds.layout (record { named = finds.named; tables = finds.tables; runs = finds.runs; names = record { no_version = is.no_version; in_tables = finds.good } })

-- the id of its next table is that of the files
pub next_in : (image : Image) (f : Found) → IsFoundIn image f → IsNextTable image f.opened.version f.opened.next_table_id
next_in image f is = record { found = found; fresh = fresh }
  where
    found : IsSome (image current_name) → (ids : List ℕ) × IsFound image f.opened.version.id f.opened.version.levels f.opened.next_table_id ids
    found there = by_kind f.is_new is.finds
      where
        by_kind : (is_new : Bool) → FindsIn is_new image f → (ids : List ℕ) × IsFound image f.opened.version.id f.opened.version.levels f.opened.next_table_id ids
        by_kind true finds = let no = subst (λ (c : Option (List ℕ)). IsSome c) finds.0 there in absurd (cc no)
        by_kind false finds = (f.ids.items, finds)

    fresh : image current_name ≡ None → f.opened.next_table_id ≡ 0
    fresh none = by_kind f.is_new is.finds
      where
        by_kind : (is_new : Bool) → FindsIn is_new image f → f.opened.next_table_id ≡ 0
        by_kind true finds = ap (λ (o : Opened). o.next_table_id) finds.1
        by_kind false finds = let named = finds.named in absurd (cc (sym none ∙ named.current))

-- the greater of two numbers is just above what one of them is
pub just_higher : (a b : ℕ) (xs ys : List ℕ) → IsJustAbove a xs → IsJustAbove b ys → IsJustAbove (max a b) xs ⊎ IsJustAbove (max a b) ys
just_higher a b xs ys first second = elim (reaches_or_not a b) [
  | inl le ↦ let is : b ≡ max a b = omega (arith, le) in inr (subst (λ n. IsJustAbove n ys) is second)
  | inr lt ↦ let is : a ≡ max a b = omega (arith, lt) in inl (subst (λ n. IsJustAbove n xs) is first)
]

pub numbered_more : (n m : ℕ) (xs : List ℕ) → n ≤ m → AreRecordNumbers n xs → AreRecordNumbers m xs
numbered_more n m xs le are = record { rise = are.rise; below = All-weaker (λ k. k < n) (λ k. k < m) (λ k lt. omega (arith, lt, le)) xs are.below }

-- ---- the tree

module _ (config cfg : Config) (v : SeenVersion) (next_table next : ℕ) (passed numbers : List ℕ) (records : List Record) (before core : Core)
    (opens : before ≡ opened_core cfg v next_table) (is : cfg ≡ raised (max v.log_from next) (raised (capped (above (held (placed_of v.levels)))) config))
    (take : core ≡ written_all (entries_read records) before) where
  abbrev made : SeenVersion → ℕ → Core
  made u m = written_all (entries_read records) (opened_core (raised (max v.log_from next) (raised (capped (above (held (placed_of u.levels)))) config)) u m)

  pub whole : core ≡ written_all (entries_read records) (opened_core cfg v next_table)
  whole = take ∙ ap (written_all (entries_read records)) opens

  pub version : core.history.latest.version ≡ v
  version = ap (λ (c : Core). c.history.latest.version) whole

  pub table : core.next_table ≡ next_table
  table = ap (λ (c : Core). c.next_table) whole

  pub seqno : core.seqno ≡ cfg.seqno
  seqno = ap (λ (c : Core). c.seqno) whole

  is_made : core ≡ made core.history.latest.version core.next_table
  is_made = whole ∙ (ap (λ k. written_all (entries_read records) (opened_core k v next_table)) is ∙ (ap (λ u. made u next_table) (sym version) ∙ ap (made core.history.latest.version) (sym table)))

  pub high : max v.log_from next ≤ core.seqno
  high = let a = seqno in let b = ap (λ (k : Config). k.seqno) is in omega (arith, a, b)

  pub replays : {S : Type 0} (store : S) → numbers ≡ map (λ r. r.number) records → AreRecordNumbers next numbers → AreRecordNumbers next passed → IsJustAbove next passed ⊎ IsJustAbove next numbers → Replays config passed records (record { store = store; core = core; numbers = numbers; doubted = false })
  replays store same after below just = record {
    least = max v.log_from next;
    core = is_made;
    above_version = subst (λ (u : SeenVersion). u.log_from ≤ max v.log_from next) (sym version) (omega arith);
    above_passed = numbered_more next (max v.log_from next) passed (omega arith) below;
    above_records = subst (AreRecordNumbers (max v.log_from next)) same (numbered_more next (max v.log_from next) numbers (omega arith) after);
    least_is = elim (reaches_or_not next v.log_from) [
      | inl le ↦ inl (let e = ap (λ (u : SeenVersion). u.log_from) version in omega (arith, e, le))
      | inr lt ↦ let is : next ≡ max v.log_from next = omega (arith, lt) in
          inr (subst (λ n. IsJustAbove n passed ⊎ IsJustAbove n (map (λ (r : Record). r.number) records)) is (subst (λ xs. IsJustAbove next passed ⊎ IsJustAbove next xs) same just))
    ];
    numbers = same;
    sure = refl;
  }

-- ---- the store

-- of each record from here on, and of each refused name, a crash leaves just what was read
pub record IsReadIn (old mid : World) (from : ℕ) : Type 0 where
  pub records : (k : ℕ) → k < 2 ^ 63 → from ≤ k → (c : Option (List ℕ)) → mid.may (record_name k) c → c ≡ old.gives (record_name k)
  pub refused : (n : List ℕ) → kind_of n ≡ Refused → (c : Option (List ℕ)) → mid.may n c → c ≡ old.gives n

-- so it is where opening has settled what could be settled
pub is_read_in : (old mid : World) (from : ℕ) → ((n : List ℕ) → IsForeign n → IsOnDisk old mid n) → CanBeSettled old from → IsReadIn old mid from
is_read_in old mid from settles can = record {
  records = λ k small le c m. let p = can.records k small le in settles (record_name k) (record_is_foreign k) p.0 c p.1 m;
  refused = λ n refused c m. let p = can.refused n refused in settles n (refused_is_foreign n refused) p.0 c p.1 m;
}

module _ (old mid new : World) (v : SeenVersion) (passed : List ℕ) (records : List Record) (log : IsLogFrom old.gives v.log_from passed records) (passes : Passes old mid) (clears : ClearsRecords (IsBelow v.log_from) mid new) where
  may_be : (n : List ℕ) (c : Option (List ℕ)) → IsForeign n → new.may n c → IsOldOrPassed old v.log_from n c
  may_be n c foreign m = ⊎_elim (λ was. inl (passes.may n c foreign was)) (λ gone. inr gone) (clears.may n c m)

  pub takes : PlainNumbersAreRead → (IsSome (old.gives current_name) → ReadsFrom old.gives v) → (old.gives current_name ≡ None → v ≡ first_version) → (IsSome (old.gives current_name) → Finds old.gives v.levels) → ((k : ℕ) → Contains passed k → k < v.log_from → new.gives (record_name k) ≡ None) → ((n : List ℕ) → IsNoneOf (Contains passed) n → new.gives n ≡ mid.gives n) → LeavesOnly mid new (AreCleared (IsBelow v.log_from) mid) → TakesLog old new v passed records
  takes read from fresh found gone others moments = record {
    version = from;
    fresh = fresh;
    found = found;
    log = log;
    gone = λ k there. gone k there (((log.passed_are k).0 there).1);
    known = λ k small there. by_place k small there (reaches_or_not v.log_from k);
    passed_on = record {
      gives = λ n foreign none. clears.gives n none ∙ passes.gives n foreign;
      may = may_be;
      any_moment = joined old mid new (KeepsForeign old) (AreCleared (IsBelow v.log_from) mid) (HasOldOrPassed old v.log_from) passes.leaves moments
          (λ image was n foreign. inl (was n foreign))
          (λ image was n foreign. ⊎_elim (λ m. inl (passes.may n (image n) foreign m)) (λ g. inr g) (was n));
    };
  }
    where
      by_place : (k : ℕ) → k < 2 ^ 63 → IsSome (new.gives (record_name k)) → (v.log_from ≤ k) ⊎ (k < v.log_from) → Contains (map (λ r. r.number) records) k
      by_place k small there (inl le) = (log.read_are k).1 (record { small = small; file = subst (λ (c : Option (List ℕ)). IsSome c) (clears.gives (record_name k) (none_below read v.log_from k le small) ∙ passes.gives (record_name k) (record_is_foreign k)) there }, le)
      by_place k small there (inr lt) = absurd (not_there (is_known_or_not k passed))
        where
          out_of : (k : ℕ) → AllByRecursion (λ j. j ≢ k) passed → Contains passed k → ⊥
          out_of k out has = All-contains (λ j. j ≢ k) passed k (All-from_recursion (λ j. j ≢ k) passed out) has refl

          not_there : Contains passed k ⊎ AllByRecursion (λ j. j ≢ k) passed → ⊥
          not_there (inl has) = let no = subst (λ (c : Option (List ℕ)). IsSome c) (gone k has lt) there in cc no
          not_there (inr out) =
              let same = others (record_name k) (λ j has e. All-contains (λ j. j ≢ k) passed j (All-from_recursion (λ j. j ≢ k) passed out) has (sym (apart read k j small ((log.passed_are j).0 has).0.small e))) ∙ passes.gives (record_name k) (record_is_foreign k) in
              out_of k out ((log.passed_are k).1 (record { small = small; file = subst (λ (c : Option (List ℕ)). IsSome c) same there }, lt))

  -- ---- the log

  module _ (read : PlainNumbersAreRead) (settled : IsReadIn old mid v.log_from) where
    -- of a record's name that isn't below, a crash leaves what was read
    is_read : (k : ℕ) → k < 2 ^ 63 → v.log_from ≤ k → (c : Option (List ℕ)) → new.may (record_name k) c → c ≡ old.gives (record_name k)
    is_read k small le c m = ⊎_elim (λ was. settled.records k small le c was) below (clears.may (record_name k) c m)
      where
        below : (c ≡ None) × IsOneOf (IsBelow v.log_from) (record_name k) → c ≡ old.gives (record_name k)
        below gone =
            let lt : gone.1.0 < v.log_from = gone.1.1 in
            let same : k ≡ gone.1.0 = apart read k gone.1.0 small (omega (arith, lt, le, small)) gone.1.2 in
            absurd (omega (arith, lt, le, same))

    file_of : (r : Record) → IsRecordAt old.gives r.number r → r.number < 2 ^ 63 → v.log_from ≤ r.number → (c : Option (List ℕ)) → new.may (record_name r.number) c → IsRecordFile (batch_read r) c
    file_of r at small le c m = (at.bytes, is_read r.number small le c m ∙ at.file, at.reads)

    files : (rs : List Record) → AllByRecursion (λ r. IsRecordAt old.gives r.number r) rs → ((k : ℕ) → Contains (map (λ r. r.number) rs) k → (k < 2 ^ 63) × (v.log_from ≤ k))
        → AllByRecursion (λ b. (c : Option (List ℕ)) → new.may (record_name b.number) c → IsRecordFile b c) (map batch_read rs)
    files [] at where_are = tt
    files (r ∷ rs) at where_are =
        let here = where_are r.number (0, omega arith, refl) in
        (file_of r at.0 here.0 here.1, files rs at.1 (λ k there. where_are k (Contains-append_right (r.number ∷ []) (map (λ x. x.number) rs) k there)))

    pub files_are : AllByRecursion (λ b. (c : Option (List ℕ)) → new.may (record_name b.number) c → IsRecordFile b c) (map batch_read records)
    files_are = files records log.records_are (λ k there. let is = (log.read_are k).0 there in (is.0.small, is.1))

    -- no number of a record is one that none has
    none_of : (rs : List Record) (n : ℕ) → IsNoNumber n (map batch_read rs) → Contains (map (λ r. r.number) rs) n → ⊥
    none_of rs n none there = All-contains (λ k. k ≢ n) (map (λ (r : Record). r.number) rs) n (All-from_recursion (λ k. k ≢ n) (map (λ (r : Record). r.number) rs) (all_other rs none)) there refl
      where
        all_other : (xs : List Record) → IsNoNumber n (map batch_read xs) → AllByRecursion (λ k. k ≢ n) (map (λ r. r.number) xs)
        all_other [] h = tt
        all_other (x ∷ xs) h = (h.0, all_other xs h.1)

    pub absent : (n : ℕ) → n < 2 ^ 63 → v.log_from ≤ n → IsNoNumber n (map batch_read records) → (c : Option (List ℕ)) → new.may (record_name n) c → c ≡ None
    absent n small le none c m = is_read n small le c m ∙ by_file (old.gives (record_name n)) refl
      where
        by_file : (o : Option (List ℕ)) → old.gives (record_name n) ≡ o → o ≡ None
        by_file None is = refl
        by_file (Some bytes) is = absurd (none_of records n none ((log.read_are n).1 (record { small = small; file = subst (λ (p : Option (List ℕ)). IsSome p) (sym is) refl }, le)))

    pub named : (n : List ℕ) → kind_of n ≡ Refused → (c : Option (List ℕ)) → new.may n c → c ≡ None
    named n refused c m = ⊎_elim (λ was. settled.refused n refused c was ∙ log.are.good n refused) (λ gone. gone.0) (clears.may n c m)

-- ---- as the theory sees it

low_each : (n : ℕ) (rs : List Record) → All (λ k. k < n) (map (λ r. r.number) rs) → AllByRecursion (λ b. b.number < n) (map batch_read rs)
low_each n [] h = tt
low_each n (r ∷ rs) h = (All-head (λ k. k < n) r.number (map (λ (x : Record). x.number) rs) h, low_each n rs (All-tail (λ k. k < n) r.number (map (λ (x : Record). x.number) rs) h))

high_each : (n : ℕ) (rs : List Record) → ((k : ℕ) → Contains (map (λ r. r.number) rs) k → n ≤ k) → AllByRecursion (λ b. n ≤ b.number) (map batch_read rs)
high_each n [] h = tt
high_each n (r ∷ rs) h = (h r.number (0, omega arith, refl), high_each n rs (λ k there. h k (Contains-append_right (r.number ∷ []) (map (λ (x : Record). x.number) rs) k there)))

entries_same : (rs : List Record) → entries_in (map batch_read rs) ≡ entries_read rs
entries_same [] = refl
entries_same (r ∷ rs) = flat_map-cons entries_of (batch_read r) (map batch_read rs) ∙ (ap (λ es. op_entries r.number r.ops ++ es) (entries_same rs) ∙ sym (flat_map-cons (λ (x : Record). op_entries x.number x.ops) r rs))

module _ (fresh : OpenedIsFresh) (reopen : ReplaysReopen) (stays : CounterStaysAbove) (cfg : Config) (v : SeenVersion) (next_table : ℕ) (passed : List ℕ) (records : List Record) (core : Core)
    (whole : core ≡ written_all (entries_read records) (opened_core cfg v next_table)) (from_le : v.log_from ≤ core.seqno) (below : All (λ k. k < core.seqno) (map (λ r. r.number) records))
    (high : (k : ℕ) → Contains (map (λ r. r.number) records) k → v.log_from ≤ k) (stands : LogStands (image_read v records)) where
  abbrev image : LogImage
  image = image_read v records

  abbrev start : Core
  start = opened_core cfg v next_table

  abbrev end : Core
  end = written_all (entries_read records) start

  count_is : counted image ≡ map batch_read records
  count_is = since_all v.log_from (map batch_read records) (high_each v.log_from records high)

  es_is : entries_in (counted image) ≡ entries_read records
  es_is = ap entries_in count_is ∙ entries_same records

  abbrev first : Log
  first = logged_tree image (state_of (map Write (entries_read records)) end)

  reopened : IsReopened image first
  reopened =
      let run = write_run (entries_read records) start refl (held image.tables) [] in
      reopen image (saved_of [] [] start) (state_of (map Write (entries_read records)) end) stands (fresh cfg v next_table)
      (subst (λ es. Run (held image.tables) (state_of [] start) (map Wrote es) (state_of (map Write (entries_read records)) end)) (sym es_is) run)

  low : AllByRecursion (λ b. b.number < core.seqno) (counted image)
  low = subst (AllByRecursion (λ b. b.number < core.seqno)) (sym count_is) (low_each core.seqno records below)

  next : MayBeDrawn (opened_by image) first core.seqno
  next =
      let rest = reverse (entries_in (counted image)) in
      let a = above-append rest (held image.tables) in
      let r = above_each core.seqno rest (each_reverse (λ e. e.key.seqno < core.seqno) (entries_in (counted image)) (each_entries (λ m. m < core.seqno) (counted image) low)) in
      let t = stands.passed in
      stays.opened image first core.seqno reopened (omega (arith, a, r, t, from_le)) from_le low

  is_log : IsLogOf [] [] core false first
  is_log = subst (λ k. IsLogOf [] [] k false first) (sym whole) (record { tree = refl; from = refl; other = λ u lost. absurd (cc lost); doubt = refl })

  pub reopens : (old mid new : World) → IsLogFrom old.gives v.log_from passed records → Passes old mid → ClearsRecords (IsBelow v.log_from) mid new → PlainNumbersAreRead → IsReadIn old mid v.log_from → {S : Type 0} (store : S) (numbers : List ℕ)
      → IsReopenedLog image (record { store = store; core = core; numbers = numbers; doubted = false }) new
  reopens old mid new log passes clears read settled store numbers = record {
    first = first;
    reopened = reopened;
    is = is_log;
    next = next;
    keeps = record {
      counted = subst (AllByRecursion (λ b. (c : Option (List ℕ)) → new.may (record_name b.number) c → IsRecordFile b c)) (sym count_is) (files_are old mid new v passed records log passes clears read settled);
      doubted = tt;
      absent = λ n small le none c m. absent old mid new v passed records log passes clears read settled n small le (subst (IsNoNumber n) count_is (each_left (λ b. b.number ≢ n) (counted image) [] none)) c m;
      named = named old mid new v passed records log passes clears read settled;
      small = each_append (λ b. b.number < 2 ^ 63) (counted image) [] (subst (AllByRecursion (λ b. b.number < 2 ^ 63)) (sym count_is) (low_each (2 ^ 63) records (small_each (map (λ (r : Record). r.number) records) (λ k there. ((log.read_are k).0 there).0.small)))) tt;
    };
  }
