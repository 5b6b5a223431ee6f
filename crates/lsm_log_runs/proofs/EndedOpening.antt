-- A life that ends in its opening.
use Rattle.std.proofs.Common.{◌≡◌, ⊎_elim, inl, inr, ℕ, ◌<◌, ◌≤◌, ◌^◌, List, [], ◌∷◌, map, Contains, Option, None, IsSome, refl, sym, ◌∙◌, subst, arith}
use Rattle.std.specs.List.{AllByRecursion}
use Rattle.std.proofs.lemmas.List.Elements.{Contains-append_right}
use Rattle.lsm_below.specs.Entries.{Entry}
use Rattle.lsm_store.specs.World.{Image, World, IsImage, Begins}
use Rattle.lsm_model.specs.Journal.{Map}
use Rattle.lsm_logged.specs.Levels.{Levels as SeenLevels, SeenVersion, empty_levels}
use Rattle.lsm_manifest.specs.Finding.{Finds, FoundOnce, FoundTablesShow, UnreadNamesDontMatter, StandsForMap}
use Rattle.lsm_manifest.specs.Names.{current_name}
use Rattle.lsm_manifest.specs.Ready.{IsReady}
use Rattle.lsm_log.specs.declared.record.Record.{Record}
use Rattle.lsm_log.specs.LogNames.{record_name}
use Rattle.lsm_log.specs.Logs.{HasBadName, IsThere, IsRecordAt, IsNoRecordAt, IsBadLog}
use Rattle.lsm_log_model.specs.Records.{LogImage, LogStands}
use Rattle.lsm_logged.specs.Meanwhile.{ReadsVersion, AreReadFrom, ReadsSame, ReadsAsBefore}
use Rattle.lsm_logged.specs.Opening.{CanBeSettled, image_read}
use Rattle.lsm_logged.proofs.Versions.{version_is_one}
use Rattle.lsm_run_model.specs.Lives.{End, Crashed, Killed, EndsIn, TakesUp}
use Rattle.lsm_log_runs.specs.Images.{ReadsLog, HoldsLogged, HoldsPast, Keeps, IsSmall, CanBeRead, LogMayBeOpened}
use Rattle.lsm_log_runs.specs.Lives.{StillKept, OpeningLife, GoesOn}
use Rattle.lsm_log_runs.specs.Pasts.{LogPast}
use Rattle.lsm_log_runs.proofs.Crashed.{given_is, begins_given, only_given, still_small, crashed_reads}
use Rattle.lsm_log_runs.proofs.Settling.{stands_read}

-- ---- an image that reads as another one

-- records are where they were
records_at : (from : ℕ) (a b : Image) → ((k : ℕ) → k < 2 ^ 63 → from ≤ k → b (record_name k) ≡ a (record_name k)) → (rs : List Record) → AllByRecursion (λ r. IsRecordAt a r.number r) rs → ((k : ℕ) → Contains (map (λ r. r.number) rs) k → (k < 2 ^ 63) × (from ≤ k))
    → AllByRecursion (λ r. IsRecordAt b r.number r) rs
records_at from a b same [] at where_are = tt
records_at from a b same (r ∷ rs) at where_are =
    let here = where_are r.number (0, omega arith, refl) in
    let one_at = at.0 in (
      record { bytes = one_at.bytes; file = same r.number here.0 here.1 ∙ one_at.file; reads = one_at.reads; number_is = one_at.number_is },
      records_at from a b same rs at.1 (λ k there. where_are k (Contains-append_right (r.number ∷ []) (map (λ (x : Record). x.number) rs) k there)),
    )

module _ (once : FoundOnce) (P : LogImage → Type 0) (was image : Image) (same : ReadsSame was image) (h : HoldsLogged P was) where
  abbrev u : SeenVersion
  u = h.finds.version

  one : (v : SeenVersion) → ReadsVersion image v → u ≡ v
  one v reads = version_is_one once image u v (same.version u h.finds.read) reads

  -- a record is there where it was
  moved_there : (k : ℕ) → u.log_from ≤ k → IsThere image k → IsThere was k
  moved_there k le there = record { small = there.small; file = subst (λ (c : Option (List ℕ)). IsSome c) (same.records u k h.finds.read there.small le) there.file }

  back_there : (k : ℕ) → u.log_from ≤ k → IsThere was k → IsThere image k
  back_there k le there = record { small = there.small; file = subst (λ (c : Option (List ℕ)). IsSome c) (sym (same.records u k h.finds.read there.small le)) there.file }

  good : (v : SeenVersion) → ReadsVersion image v → IsBadLog image v.log_from → ⊥
  good v reads bad = h.good u h.finds.read (⊎_elim (λ (b : HasBadName image). inl (bad_name b)) (λ (z : (k : ℕ) × IsThere image k × (v.log_from ≤ k) × IsNoRecordAt image k). inr (bad_record z.0 z.1 (subst (λ (x : SeenVersion). x.log_from ≤ z.0) (sym (one v reads)) z.2) z.3)) bad)
    where
      bad_name : HasBadName image → HasBadName was
      bad_name b = record { name = b.name; refused = b.refused; there = subst (λ (c : Option (List ℕ)). IsSome c) (same.names b.name b.refused) b.there }

      bad_record : (k : ℕ) → IsThere image k → u.log_from ≤ k → IsNoRecordAt image k → (k : ℕ) × IsThere was k × (u.log_from ≤ k) × IsNoRecordAt was k
      bad_record k there le none = (k, moved_there k le there, le, λ bytes ops file. none bytes ops (same.records u k h.finds.read there.small le ∙ file))

  read_there : (records : List Record) → AreReadFrom image u.log_from records → AreReadFrom was u.log_from records
  read_there records log = record {
    good = λ n bad. sym (same.names n bad) ∙ log.good n bad;
    are = λ k. (λ has. (let is = (log.are k).0 has in (moved_there k is.1 is.0, is.1)), λ is. (log.are k).1 (back_there k is.1 is.0, is.1));
    rise = log.rise;
    records_are = records_at u.log_from image was (λ k small le. sym (same.records u k h.finds.read small le)) records log.records_are (λ k has. let is = (log.are k).0 has in (is.0.small, is.1));
  }

  read_here : (records : List Record) → AreReadFrom was u.log_from records → AreReadFrom image u.log_from records
  read_here records log = record {
    good = λ n bad. same.names n bad ∙ log.good n bad;
    are = λ k. (λ has. (let is = (log.are k).0 has in (back_there k is.1 is.0, is.1)), λ is. (log.are k).1 (moved_there k is.1 is.0, is.1));
    rise = log.rise;
    records_are = records_at u.log_from was image (λ k small le. same.records u k h.finds.read small le) records log.records_are (λ k has. let is = (log.are k).0 has in (is.0.small, is.1));
  }

  reads_there : (v : SeenVersion) (records : List Record) → ReadsLog image v records → P (image_read v records)
  reads_there v records reads =
      let e = one v reads.version in
      subst (λ x. P (image_read x records)) e (h.reads u records (record { version = h.finds.read; log = read_there records (subst (λ (x : SeenVersion). AreReadFrom image x.log_from records) (sym e) reads.log) }))

  pub held_same : HoldsLogged P image
  held_same = record {
    finds = record { version = u; read = same.version u h.finds.read; found = same.tables u.levels h.finds.found; stands = h.finds.stands };
    log = (h.log.0, record { version = same.version u h.finds.read; log = read_here h.log.0 h.log.1.log });
    good = good;
    reads = reads_there;
  }

-- ---- after an opening, and in it

-- a store of which a crash leaves only what reads as something that could be left before
module _ (once : FoundOnce) (unread : UnreadNamesDontMatter) (old cut : World) (may : CanBeRead old) (before : (image : Image) → IsImage cut.may image → ReadsAsBefore old image) where
  -- finds the tables that were found before
  finds : (image : Image) → IsImage cut.may image → (ts : SeenLevels) × Finds image ts
  finds image at = let b = before image at in let f = may.ready.found b.0 b.1 in (f.0, b.2.tables f.0 f.1)

  found_before : (image : Image) (at : IsImage cut.may image) (ts : SeenLevels) → Finds image ts → Finds (before image at).0 ts
  found_before image at ts found =
      let b = before image at in
      let f = may.ready.found b.0 b.1 in
      subst (Finds b.0) (once image f.0 ts (b.2.tables f.0 f.1) found) f.1

  -- none, where there may have been no `current`
  empty_by : (x : Image) (at_x : IsImage cut.may x) → (before x at_x).0 current_name ≡ None → (image : Image) → IsImage cut.may image → (ts : SeenLevels) → Finds image ts → ts ≡ empty_levels
  empty_by x at_x none image at ts found = may.ready.none (before image at).0 (before x at_x).0 ts (before image at).1 (before x at_x).1 none (found_before image at ts found)

  all_empty : (x : Image) (at_x : IsImage cut.may x) → (before x at_x).0 current_name ≡ None → (a b : Image) (ts : SeenLevels) → IsImage cut.may a → IsImage cut.may b → Finds a ts → Finds b ts
  all_empty x at_x none a b ts at_a at_b found =
      let f = finds b at_b in
      subst (Finds b) (empty_by x at_x none b at_b f.0 f.1 ∙ sym (empty_by x at_x none a at_a ts found)) f.1

  same_found : (a b : Image) (ts : SeenLevels) → IsImage cut.may a → IsImage cut.may b → b current_name ≡ a current_name → Finds a ts → Finds b ts
  same_found a b ts at_a at_b same found =
      let p = before a at_a in
      let q = before b at_b in
      ⊎_elim
      (λ (e : a current_name ≡ p.0 current_name). ⊎_elim
      (λ (f : b current_name ≡ q.0 current_name). q.2.tables ts (may.ready.once p.0 q.0 ts p.1 q.1 (sym f ∙ same ∙ e) (found_before a at_a ts found)))
      (λ (none : q.0 current_name ≡ None). all_empty b at_b none a b ts at_a at_b found)
      q.2.current)
      (λ (none : p.0 current_name ≡ None). all_empty a at_a none a b ts at_a at_b found)
      p.2.current

  none_found : (a b : Image) (ts : SeenLevels) → IsImage cut.may a → IsImage cut.may b → b current_name ≡ None → Finds a ts → ts ≡ empty_levels
  none_found a b ts at_a at_b gone found =
      let q = before b at_b in
      ⊎_elim (λ (f : b current_name ≡ q.0 current_name). empty_by b at_b (sym f ∙ gone) a at_a ts found) (λ (none : q.0 current_name ≡ None). empty_by b at_b none a at_a ts found) q.2.current

  -- so it can be read again
  pub reads_again : CanBeRead cut
  reads_again = stands_read once unread cut (λ image at. let b = before image at in held_same once LogStands b.0 image b.2 (may.stands b.0 b.1)) (record { found = finds; once = same_found; none = none_found })

  -- and opened, where that was so before
  pub opens_again : LogMayBeOpened old → LogMayBeOpened cut
  opens_again opens = record { read = reads_again; small = λ image at. let b = before image at in held_same once IsSmall b.0 image b.2 (opens.small b.0 b.1) }

-- whatever it leaves is kept as before
pub kept_on : FoundOnce → (opened : List Entry) (start : Map) (past : LogPast) (least counter : ℕ) (old : World) (image : Image) → StillKept opened start past least counter old → ReadsAsBefore old image → Keeps opened start past least counter image
kept_on once opened start past least counter old image kept b = held_same once (HoldsPast opened start past least counter) b.0 image b.2 (kept b.0 b.1)

module _ {F : Type 0} (world : F → World) (once : FoundOnce) (unread : UnreadNamesDontMatter) (shows : FoundTablesShow) (ready : (store : F) (image : Image) (m : Map) → StandsForMap image m → Begins image (world store) → IsReady (world store)) (settles : (store : F) (image : Image) (from : ℕ) → Begins image (world store) → CanBeSettled (world store) from) where
  pub goes_on : (was next : F) → OpeningLife world was next → GoesOn world was next
  goes_on was next o = by o.then.end o.then.ends o.then.takes
    where
      by : (end : End F) → EndsIn world (world was) (world o.is) end → TakesUp world end next → GoesOn world was next
      by (Crashed left) ends begins =
          let b = subst (ReadsAsBefore (world was)) (sym (given_is (world next) left begins)) (o.leaves.meanwhile.each left (ends.each left refl)) in
          let given = begins_given (world next) left begins in
          let reads = crashed_reads shows (world next) (ready next) (settles next) given (held_same once LogStands b.0 (world next).gives b.2 (o.may.stands b.0 b.1)) in
          record {
            reads = reads;
            opens = λ opens. record { read = reads; small = still_small (world next) given (held_same once IsSmall b.0 (world next).gives b.2 (opens.small b.0 b.1)) };
            keeps = λ opened start past least counter kept image at. subst (Keeps opened start past least counter) (only_given (world next) given image at) (kept_on once opened start past least counter (world was) (world next).gives kept b);
          }
      by (Killed cut) ends same =
          let before = λ (image : Image) (at : IsImage (world next).may image). o.leaves.meanwhile.each image (ends.each image (λ n. (same.may n (image n)).0 (at n))) in
          record {
            reads = reads_again once unread (world was) (world next) o.may before;
            opens = λ opens. opens_again once unread (world was) (world next) o.may before opens;
            keeps = λ opened start past least counter kept image at. kept_on once opened start past least counter (world was) image kept (before image at);
          }
