-- A new store may be opened: nothing is in it, and nothing can be left of it.
use Rattle.std.proofs.Common.{◌≡◌, ⊎_elim, ℕ, ◌≤◌, ◌^◌, List, [], ◌∷◌, map, Option, None, IsSome, refl, sym, ap, ◌∙◌, subst, arith}
use Rattle.std.specs.List.{AllByRecursion}
use Rattle.lsm_store.specs.World.{Image, World, Begins}
use Rattle.lsm_model.specs.Views.{Placed}
use Rattle.lsm_model.proofs.Crashes.{no_tables_stand}
use Rattle.lsm_logged.specs.Levels.{SeenVersion, placed_of}
use Rattle.lsm_manifest.specs.Finding.{Nothing}
use Rattle.lsm_manifest.specs.Names.{current_name}
use Rattle.lsm_manifest.specs.Ready.{IsReady}
use Rattle.lsm_manifest.specs.Versions.{first_version}
use Rattle.lsm_manifest.proofs.FindingLemmas.{nothing_in}
use Rattle.lsm_log.specs.declared.record.Record.{Record}
use Rattle.lsm_log.specs.LogNames.{record_name}
use Rattle.lsm_log.specs.Logs.{HasBadName, IsThere, IsNoRecordAt, IsRecordAt, IsBadLog}
use Rattle.lsm_log_model.specs.Records.{LogImage, LogStands}
use Rattle.lsm_log_model.specs.Replays.{TablesAloneStand}
use Rattle.lsm_logged.specs.Meanwhile.{ReadsVersion}
use Rattle.lsm_logged.specs.Opening.{CanBeSettled, batch_read, image_read}
use Rattle.lsm_log_runs.specs.Images.{ReadsLog, HoldsLogged, IsSmall, LogMayBeOpened}

absent : {A : Type 0} (o : Option A) → o ≡ None → IsSome o → ⊥
absent o none some = let s = subst (λ p. IsSome p) none some in absurd (cc s)

abbrev imaged : List Placed → ℕ → List Record → LogImage
imaged placed from records = record { tables = placed; log_from = from; records = map batch_read records }

above_none : (from : ℕ) → 0 ≤ 2 ^ 63 → IsSmall (imaged [] from [])
above_none from le = le

-- an image without any name
module _ (tables : TablesAloneStand) (image : Image) (none : (n : List ℕ) → image n ≡ None) where
  no_records : (records : List Record) → AllByRecursion (λ r. IsRecordAt image r.number r) records → records ≡ []
  no_records [] h = refl
  no_records (r ∷ records) h = let file = h.0.file in absurd (cc (sym (none (record_name r.number)) ∙ file))

  is_empty : (v : SeenVersion) (records : List Record) → ReadsLog image v records → image_read v records ≡ imaged [] v.log_from []
  is_empty v records reads =
      let first = reads.version.fresh (none current_name) in
      ap (λ (u : SeenVersion). imaged (placed_of u.levels) v.log_from records) first ∙ ap (imaged [] v.log_from) (no_records records reads.log.records_are)

  stands : (v : SeenVersion) (records : List Record) → ReadsLog image v records → LogStands (image_read v records)
  stands v records reads = subst LogStands (sym (is_empty v records reads)) (tables [] v.log_from no_tables_stand (omega arith)).0

  small : (v : SeenVersion) (records : List Record) → ReadsLog image v records → IsSmall (image_read v records)
  small v records reads = subst IsSmall (sym (is_empty v records reads)) (above_none v.log_from (omega arith))

  not_bad : (v : SeenVersion) → ReadsVersion image v → IsBadLog image v.log_from → ⊥
  not_bad v reads bad = ⊎_elim
      (λ (b : HasBadName image). absent (image b.name) (none b.name) b.there)
      (λ (z : (k : ℕ) × IsThere image k × (v.log_from ≤ k) × IsNoRecordAt image k). absent (image (record_name z.0)) (none (record_name z.0)) z.1.file)
      bad

  first_read : ReadsVersion image first_version
  first_read = record { version = λ some. absurd (absent (image current_name) (none current_name) some); found = λ some. absurd (absent (image current_name) (none current_name) some); fresh = λ n. refl }

  empty_holds : (P : LogImage → Type 0) → ((v : SeenVersion) (records : List Record) → ReadsLog image v records → P (image_read v records)) → HoldsLogged P image
  empty_holds P each = record {
    finds = record {
      version = first_version;
      read = first_read;
      found = Nothing (none current_name) (record { no_version = none _; in_tables = λ name refused. none name }) refl;
      stands = no_tables_stand;
    };
    log = (
      [],
      record {
        version = first_read;
        log = record {
          good = λ n bad. none n;
          are = λ k. (λ has. absurd (omega (arith, has.1)), λ is. absurd (absent (image (record_name k)) (none (record_name k)) is.0.file));
          rise = λ k lt. absurd (omega (arith, lt));
          records_are = tt;
        };
      },
    );
    good = not_bad;
    reads = each;
  }

pub new_opens : TablesAloneStand → (w : World) → Begins nothing_in w → IsReady w → ((from : ℕ) → CanBeSettled w from) → LogMayBeOpened w
new_opens tables w new ready settles = record {
  read = record {
    ready = ready;
    stands = λ image may. let none = λ (n : List ℕ). (new.may n (image n)).0 (may n) in empty_holds tables image none LogStands (stands tables image none);
    settles = λ image v may reads. settles v.log_from;
  };
  small = λ image may. let none = λ (n : List ℕ). (new.may n (image n)).0 (may n) in empty_holds tables image none IsSmall (small tables image none);
}
