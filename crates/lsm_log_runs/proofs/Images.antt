-- What an opening reads in an image that has a version of a tree and the log beside it is what a crash may leave of a logged tree.
use Rattle.std.proofs.Common.{◌≡◌, ◌⊎◌, ⊎_elim, inl, inr, Bool, ℕ, ◌≤◌, List, [], ◌++◌, Option, Some, None, IsSome, option_to_list, refl, sym, ap, ◌∙◌, subst, arith}
use Rattle.lsm_below.specs.Members.{IsIn, each_in}
use Rattle.lsm_store.specs.World.{Image}
use Rattle.lsm_model.specs.Journal.{Event}
use Rattle.lsm_model.specs.Views.{Placed}
use Rattle.lsm_model.specs.Beginnings.{Note, Saved, Stands}
use Rattle.lsm_logged.specs.Levels.{SeenVersion, placed_of}
use Rattle.lsm_manifest.specs.Finding.{Named}
use Rattle.lsm_manifest.specs.Names.{current_name}
use Rattle.lsm_manifest.specs.Standing.{StandsFor}
use Rattle.lsm_manifest.specs.Versions.{named_levels}
use Rattle.lsm_commit.specs.Stored.{HoldsOneOf}
use Rattle.lsm_log.specs.declared.record.Record.{Record}
use Rattle.lsm_log.specs.LogNames.{record_name}
use Rattle.lsm_log.specs.Records.{IsRecordOf}
use Rattle.lsm_log.specs.Logs.{HasBadName, IsThere, IsNoRecordAt, IsBadLog}
use Rattle.lsm_log_model.specs.Logs.{Logged as Log, LogIsSound, HasVersion, MayLeave, lost_of}
use Rattle.lsm_log_model.specs.Records.{Batch, LogImage}
use Rattle.lsm_log_model.proofs.Growth.{in_append}
use Rattle.lsm_state.specs.Core.{Core, versions_left}
use Rattle.lsm_logged.specs.Acting.{HoldsLog}
use Rattle.lsm_logged.specs.Images.{RecordsAreThoseRead, VersionIsToldOnce}
use Rattle.lsm_logged.specs.Keeping.{IsLogOf, IsRecordFile, IsNoNumber}
use Rattle.lsm_logged.specs.Meanwhile.{ReadsVersion}
use Rattle.lsm_logged.specs.Opening.{image_read}
use Rattle.lsm_logged.proofs.Found.{number_of, in_map}
use Rattle.lsm_log_runs.specs.Images.{ReadsLog, HoldsLogged}
use Rattle.lsm_log_runs.proofs.Reading.{records_read}

pub held_weaker : (P Q : LogImage → Type 0) (image : Image) → ((left : LogImage) → P left → Q left) → HoldsLogged P image → HoldsLogged Q image
held_weaker P Q image f h = record { finds = h.finds; log = h.log; good = h.good; reads = λ v records r. f (image_read v records) (h.reads v records r) }

in_one : {A : Type 0} (x : A) (o : Option A) → IsIn x (option_to_list o) → o ≡ Some x
in_one x None i = absurd i
in_one x (Some y) i = ⊎_elim (λ (e : y ≡ x). ap Some e) (λ (no : ⊥). absurd no) i

module _ (once : VersionIsToldOnce) (those : RecordsAreThoseRead) (journal : List Event) (notes : List Note) (c : Core) (doubted : Bool) (t : Log) (is : IsLogOf journal notes c doubted t) (sound : LogIsSound t)
    (no_lower : (t.tree.others ≡ []) ⊎ (t.log_from ≤ t.other_from)) (stand : (left : LogImage) → MayLeave t left → Stands left.tables) (image : Image) (holds : HoldsLog c t image) where
  abbrev one : HoldsOneOf (versions_left c) image
  one = holds.0

  abbrev u : SeenVersion
  u = one.0

  stands : StandsFor image u.id (named_levels u.levels) u.levels
  stands = one.2

  there : IsSome (image current_name)
  there = subst (λ (o : Option (List ℕ)). IsSome o) (sym stands.named.current) refl

  -- which version it is
  data IsOf (from : ℕ) (tables : List Placed) : Type 0 where
    Latest : tables ≡ t.tree.state.latest.tables → from ≡ t.log_from → IsOf from tables
    Lost : IsIn tables t.tree.others → from ≡ t.other_from → IsOf from tables

  is_of : IsOf u.log_from (placed_of u.levels)
  is_of = ⊎_elim
      (λ (e : c.history.latest.version ≡ u). Latest
      (ap (λ (v : SeenVersion). placed_of v.levels) (sym e) ∙ sym (ap (λ (s : Saved). s.state.latest.tables) is.tree))
      (ap (λ (v : SeenVersion). v.log_from) (sym e) ∙ sym is.from))
      (λ (i : IsIn u (option_to_list c.lost)). Lost
      (subst (IsIn (placed_of u.levels)) (sym (ap (λ (s : Saved). s.others) is.tree)) (in_map (λ (v : SeenVersion). placed_of v.levels) (option_to_list c.lost) u i))
      (sym (is.other u (in_one u c.lost i))))
      one.1

  low_of : (from : ℕ) (tables : List Placed) → IsOf from tables → t.log_from ≤ from
  low_of from tables (Latest e f) = omega (arith, f)
  low_of from tables (Lost i f) = ⊎_elim (λ (none : t.tree.others ≡ []). absurd (subst (IsIn tables) none i)) (λ (le : t.log_from ≤ t.other_from). omega (arith, f, le)) no_lower

  version_of : (left : LogImage) → IsOf left.log_from left.tables → HasVersion left t
  version_of left (Latest e f) = inl (e, f)
  version_of left (Lost i f) = inr (i, f)

  module _ (v : SeenVersion) (reads : ReadsVersion image v) where
    same : (u.levels ≡ v.levels) × (u.log_from ≡ v.log_from)
    same = once (versions_left c) image v one (reads.found there) (reads.version there)

    is_read : IsOf v.log_from (placed_of v.levels)
    is_read = subst (λ n. IsOf n (placed_of v.levels)) same.1 (subst (λ ls. IsOf u.log_from (placed_of ls)) same.0 is_of)

    pub may_leave : (records : List Record) → ReadsLog image v records → MayLeave t (image_read v records)
    may_leave records r = record {
      version = version_of (image_read v records) is_read;
      records = those image (placed_of v.levels) v.log_from records t r.log holds.1 (low_of v.log_from (placed_of v.levels) is_read) sound;
    }

    pub reads_no_lower : t.log_from ≤ v.log_from
    reads_no_lower = low_of v.log_from (placed_of v.levels) is_read

    -- ---- the log isn't bad

    no_bad_name : HasBadName image → ⊥
    no_bad_name bad = let z : image bad.name ≡ None = holds.1.named bad.name bad.refused (image bad.name) refl in let s = subst (λ (o : Option (List ℕ)). IsSome o) z bad.there in absurd (cc s)

    whole : (k : ℕ) → IsNoRecordAt image k → (b : Batch) → b.number ≡ k → IsRecordFile b (image (record_name b.number)) → ⊥
    whole k bad b e file = bad file.0 b.ops (ap (λ n. image (record_name n)) (sym e) ∙ file.1) (subst (λ n. IsRecordOf n b.ops file.0) e file.2)

    some_there : (k : ℕ) → IsThere image k → image (record_name k) ≡ None → ⊥
    some_there k is_there none = let s = subst (λ (o : Option (List ℕ)). IsSome o) none is_there.file in absurd (cc s)

    one_bad : (k : ℕ) → IsThere image k → v.log_from ≤ k → IsNoRecordAt image k → ⊥
    one_bad k is_there le bad = ⊎_elim numbered none (number_of k (t.records ++ lost_of t.lost))
      where
        low : t.log_from ≤ v.log_from
        low = low_of v.log_from (placed_of v.levels) is_read

        none : IsNoNumber k (t.records ++ lost_of t.lost) → ⊥
        none missing = some_there k is_there (holds.1.absent k is_there.small (omega (arith, low, le)) missing (image (record_name k)) refl)

        numbered : (b : Batch) × IsIn b (t.records ++ lost_of t.lost) × (b.number ≡ k) → ⊥
        numbered z = ⊎_elim
            (λ (i : IsIn z.0 t.records). whole k bad z.0 z.2 (each_in (λ b. (x : Option (List ℕ)) → x ≡ image (record_name b.number) → IsRecordFile b x) t.records z.0 holds.1.counted i (image (record_name z.0.number)) refl))
            (λ (j : IsIn z.0 (lost_of t.lost)). ⊎_elim
            (λ (gone : image (record_name z.0.number) ≡ None). some_there k is_there (ap (λ n. image (record_name n)) (sym z.2) ∙ gone))
            (λ (file : IsRecordFile z.0 (image (record_name z.0.number))). whole k bad z.0 z.2 file)
            (each_in (λ b. (x : Option (List ℕ)) → x ≡ image (record_name b.number) → (x ≡ None) ⊎ IsRecordFile b x) (lost_of t.lost) z.0 holds.1.doubted j (image (record_name z.0.number)) refl))
            (in_append z.0 t.records (lost_of t.lost) z.1)

    not_bad : IsBadLog image v.log_from → ⊥
    not_bad bad = ⊎_elim no_bad_name (λ (z : (k : ℕ) × IsThere image k × (v.log_from ≤ k) × IsNoRecordAt image k). one_bad z.0 z.1 z.2 z.3) bad

  -- its tables stand, since they may be left beside all records
  u_stands : Stands (placed_of u.levels)
  u_stands =
      let left : LogImage = record { tables = placed_of u.levels; log_from = u.log_from; records = t.records } in
      stand left (record { version = version_of left is_of; records = inl refl })

  finds_one : ReadsVersion image u
  finds_one = record {
    version = λ some. one.3;
    found = λ some. Named u.id (named_levels u.levels) stands;
    fresh = λ none. let s = subst (λ (o : Option (List ℕ)). IsSome o) none there in absurd (cc s);
  }

  -- an opening takes the image, and what it reads there is what a crash may leave
  pub holds_may : HoldsLogged (MayLeave t) image
  holds_may =
      let read = records_read image t holds.1 u.log_from (low_of u.log_from (placed_of u.levels) is_of) sound.rising in
      record {
        finds = record { version = u; read = finds_one; found = Named u.id (named_levels u.levels) stands; stands = u_stands };
        log = (read.0, record { version = finds_one; log = read.1 });
        good = not_bad;
        reads = λ v records r. may_leave v r.version records r;
      }
