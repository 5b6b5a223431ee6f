-- What is left of a log in a store, after a call that passes records or removes some.
use Rattle.std.proofs.Common.{◌≡◌, ◌≢◌, ◌⊎◌, ⊎_elim, inl, inr, ℕ, ◌<◌, ◌≤◌, ◌^◌, true, false, cond, List, [], ◌∷◌, ◌++◌, Option, Some, None, refl, sym, ap, ◌∙◌, subst, arith, leb, codes, decimal}
use Rattle.std.specs.List.{AllByRecursion}
use Rattle.std.proofs.lemmas.Bool.{leb-false}
use Rattle.std.proofs.lemmas.List.{append_cancel_left}
use Rattle.lsm_below.specs.Each.{each_append, each_left, each_right, each_both, each_weaker}
use Rattle.lsm_below.specs.Members.{IsIn}
use Rattle.lsm_below.specs.Numbers.{PlainNumbersAreRead, plain_number}
use Rattle.lsm_store.specs.World.{Image, World, LeavesOnly}
use Rattle.lsm_store.specs.Moments.{weakened}
use Rattle.lsm_commit.specs.Foreign.{IsForeign, KeepsForeign, Passes}
use Rattle.lsm_commit.specs.Stored.{IsStored, HoldsOneOf}
use Rattle.lsm_versions.specs.Levels.{SeenVersion}
use Rattle.lsm_log.specs.LogNames.{record_name}
use Rattle.lsm_log.specs.Changes.{IsBelow, IsOneOf}
use Rattle.lsm_log_model.specs.Records.{Batch, since}
use Rattle.lsm_log_model.specs.Logs.{Logged as Log, lost_of}
use Rattle.lsm_log_model.proofs.Batches.{since_each}
use Rattle.lsm_state.specs.Core.{Core, versions_left, written_of}
use Rattle.lsm_state.specs.Commits.{UpholdsFiles}
use Rattle.lsm_logged.specs.Keeping.{IsRecordFile, IsNoNumber, HasLog, KeepsLog, IsLogIn}
use Rattle.lsm_logged.specs.Removing.{log_from_of, HasOldOrPassed, Passed}
use Rattle.lsm_logged.specs.Flushing.{IsEither, RemovesBehind}
use Rattle.lsm_logged.specs.Acting.{HoldsLog}
use Rattle.lsm_logged.proofs.LogNames.{record_is_foreign, refused_is_foreign}
use Rattle.lsm_logged.proofs.Keeping.{Has}
use Rattle.lsm_logged.proofs.Removals.{both_leave}

-- ---- records that are left

-- what holds of each record holds of each that is left, and from this number on none is missing
pub record IsLeft (from : ℕ) (old new : List Batch) : Type 1 where
  pub each : (P : Batch → Type 0) → AllByRecursion P old → AllByRecursion P new
  pub others : (n : ℕ) → from ≤ n → IsNoNumber n new → IsNoNumber n old

pub left_all : (from : ℕ) (bs : List Batch) → IsLeft from bs bs
left_all from bs = record { each = λ P h. h; others = λ n le none. none }

pub left_since : (from : ℕ) (bs : List Batch) → IsLeft from bs (since from bs)
left_since from bs = record { each = λ P h. since_each P from bs h; others = λ n le none. others n le bs none }
  where
    others : (n : ℕ) → from ≤ n → (bs : List Batch) → IsNoNumber n (since from bs) → IsNoNumber n bs
    others n le [] none = tt
    others n le (b ∷ bs) none = elim (leb from b.number) as (λ c. leb from b.number ≡ c → IsNoNumber n (cond c (b ∷ since from bs) (since from bs)) → IsNoNumber n (b ∷ bs)) [
      | true ↦ λ q h. (h.0, others n le bs h.1)
      | false ↦ λ q h. ((λ e. let lt = leb-false from b.number q in let same : b.number ≡ n = e in omega (arith, lt, same, le)), others n le bs h)
    ] refl none

pub left_then : (low from : ℕ) (old mid new : List Batch) → low ≤ from → IsLeft low old mid → IsLeft from mid new → IsLeft from old new
left_then low from old mid new le a b = record {
  each = λ P h. b.each P (a.each P h);
  others = λ n at none. a.others n (omega (arith, le, at)) (b.others n at none);
}

-- ---- names

numbers_apart : PlainNumbersAreRead → (i j : ℕ) → i < 2 ^ 64 → j < 2 ^ 64 → record_name i ≡ record_name j → i ≡ j
numbers_apart read i j low small e =
    let digits : decimal i ≡ decimal j = append_cancel_left (codes "log/") (decimal i) (decimal j) e in
    let z : Some i ≡ Some j = sym (read i low) ∙ (ap plain_number digits ∙ read j small) in cc z

-- ---- a log in a store

-- of foreign names, what has the log and has nothing more but what is gone has what is left of it
module _ (t log : Log) (left : IsLeft log.log_from t.records log.records) (lost : log.lost ≡ t.lost) (rises : t.log_from ≤ log.log_from) (has now : Has) (Gone : List ℕ → Type 0)
    (step : (n : List ℕ) (c : Option (List ℕ)) → IsForeign n → now n c → has n c ⊎ ((c ≡ None) × Gone n)) (stay : AllByRecursion (λ b. Gone (record_name b.number) → ⊥) log.records) where
  abbrev IsThere : Has → Batch → Type 0
  IsThere it b = (c : Option (List ℕ)) → it (record_name b.number) c → IsRecordFile b c

  abbrev MayBeThere : Has → Batch → Type 0
  MayBeThere it b = (c : Option (List ℕ)) → it (record_name b.number) c → (c ≡ None) ⊎ IsRecordFile b c

  abbrev IsSmall : Batch → Type 0
  IsSmall b = b.number < 2 ^ 63

  pub has_left : HasLog t has → HasLog log now
  has_left h = record {
    counted = each_both (IsThere has) (λ b. Gone (record_name b.number) → ⊥) (IsThere now)
        (λ b there no c m. ⊎_elim (λ was. there c was) (λ gone. absurd (no gone.1)) (step (record_name b.number) c (record_is_foreign b.number) m)) log.records (left.each (IsThere has) h.counted) stay;
    doubted = subst (λ l. AllByRecursion (MayBeThere now) (lost_of l)) (sym lost)
        (each_weaker (MayBeThere has) (MayBeThere now) (λ b there c m. ⊎_elim (λ was. there c was) (λ gone. inl gone.0) (step (record_name b.number) c (record_is_foreign b.number) m)) (lost_of t.lost) h.doubted);
    absent = λ n small le none c m. ⊎_elim
        (λ was. h.absent n small (omega (arith, le, rises))
        (each_append (λ b. b.number ≢ n) t.records (lost_of t.lost) (left.others n le (each_left (λ b. b.number ≢ n) log.records (lost_of log.lost) none))
        (subst (λ l. IsNoNumber n (lost_of l)) lost (each_right (λ b. b.number ≢ n) log.records (lost_of log.lost) none))) c was)
        (λ gone. gone.0)
        (step (record_name n) c (record_is_foreign n) m);
    named = λ n refused c m. ⊎_elim (λ was. h.named n refused c was) (λ gone. gone.0) (step n c (refused_is_foreign n refused) m);
    small = each_append IsSmall log.records (lost_of log.lost) (left.each IsSmall (each_left IsSmall t.records (lost_of t.lost) h.small))
        (subst (λ l. AllByRecursion IsSmall (lost_of l)) (sym lost) (each_right IsSmall t.records (lost_of t.lost) h.small));
  }

none_gone : (bs : List Batch) → AllByRecursion (λ b. ⊥ → ⊥) bs
none_gone [] = tt
none_gone (b ∷ bs) = ((λ no. no), none_gone bs)

-- ---- after a call

split : {A : Type 0} (x : A) (xs ys : List A) → IsIn x (xs ++ ys) → IsIn x xs ⊎ IsIn x ys
split x [] ys i = inr i
split x (y ∷ xs) ys i = ⊎_elim (λ e. inl (inl e)) (λ j. ⊎_elim (λ k. inl (inr k)) (λ k. inr k) (split x xs ys j)) i

-- the records are in the store, and in each image meanwhile, beside a version
pub record StaysIn (w w' : World) (old new : Core) (t log : Log) : Type 0 where
  pub keeps : KeepsLog w' log
  pub moments : IsStored w (versions_left old) (written_of old) → LeavesOnly w w' (λ image. HoldsLog old t image ⊎ HoldsLog new log image)

module _ (w w' : World) (old new : Core) (t log : Log) (left : IsLeft log.log_from t.records log.records) (lost : log.lost ≡ t.lost) (rises : t.log_from ≤ log.log_from) (keeps : KeepsLog w t) (files : UpholdsFiles w w' old new) where
  before : (image : Image) → KeepsForeign w image → IsLogIn t image
  before image kept = has_left t t (left_all t.log_from t.records) refl (omega arith) w.may (λ n c. c ≡ image n) (λ n. ⊥) (λ n c foreign e. inl (subst (w.may n) (sym e) (kept n foreign))) (none_gone t.records) keeps

  still : (image : Image) → KeepsForeign w image → IsLogIn log image
  still image kept = has_left t log left lost rises w.may (λ n c. c ≡ image n) (λ n. ⊥) (λ n c foreign e. inl (subst (w.may n) (sym e) (kept n foreign))) (none_gone log.records) keeps

  by_version : (image : Image) → HoldsOneOf (versions_left old ++ versions_left new) image → KeepsForeign w image → HoldsLog old t image ⊎ HoldsLog new log image
  by_version image one kept = ⊎_elim (λ i. inl ((one.0, i, one.2, one.3), before image kept)) (λ i. inr ((one.0, i, one.2, one.3), still image kept)) (split one.0 (versions_left old) (versions_left new) one.1)

  -- foreign names are as they were
  pub passes_stay : Passes w w' → StaysIn w w' old new t log
  passes_stay passes = record {
    keeps = has_left t log left lost rises w.may w'.may (λ n. ⊥) (λ n c foreign m. inl (passes.may n c foreign m)) (none_gone log.records) keeps;
    moments = λ stored. weakened w w' (λ image. HoldsOneOf (versions_left old ++ versions_left new) image × KeepsForeign w image) (λ image. HoldsLog old t image ⊎ HoldsLog new log image)
        (both_leave w w' (HoldsOneOf (versions_left old ++ versions_left new)) (KeepsForeign w) (files stored).1 passes.leaves) (λ image is. by_version image is.0 is.1);
  }

  -- records that the version has passed may be gone
  module _ (read : PlainNumbersAreRead) (next : ℕ) (small : next < 2 ^ 64) (below : AllByRecursion (λ b. b.number < next) t.records) (counts : AllByRecursion (λ b. log.log_from ≤ b.number) log.records) (from : log_from_of new ≡ log.log_from) where
    abbrev IsGone : List ℕ → Type 0
    IsGone = IsOneOf (IsBelow log.log_from)

    stay : AllByRecursion (λ b. IsGone (record_name b.number) → ⊥) log.records
    stay = each_both (λ b. b.number < next) (λ b. log.log_from ≤ b.number) (λ b. IsGone (record_name b.number) → ⊥)
        (λ b lt le gone. let low = gone.1 in let same = numbers_apart read b.number gone.0 (omega (arith, lt, small)) (omega (arith, lt, small, le, low)) gone.2 in omega (arith, le, low, same))
        log.records (left.each (λ b. b.number < next) below) counts

    passed_in : (image : Image) → HasOldOrPassed w (log_from_of new) image → IsLogIn log image
    passed_in image passed = has_left t log left lost rises w.may (λ n c. c ≡ image n) IsGone
        (λ n c foreign e. subst (λ c. w.may n c ⊎ ((c ≡ None) × IsGone n)) (sym e) (subst (λ k. w.may n (image n) ⊎ ((image n ≡ None) × IsOneOf (IsBelow k) n)) from (passed n foreign))) stay keeps

    pub removed_stay : Passed (log_from_of new) w w' → RemovesBehind w w' old new → StaysIn w w' old new t log
    removed_stay passed behind = record {
      keeps = has_left t log left lost rises w.may w'.may IsGone (λ n c foreign m. subst (λ k. w.may n c ⊎ ((c ≡ None) × IsOneOf (IsBelow k) n)) from (passed.may n c foreign m)) stay keeps;
      moments = λ stored. weakened w w' (λ image. HoldsOneOf (versions_left old ++ versions_left new) image × IsEither w new image) (λ image. HoldsLog old t image ⊎ HoldsLog new log image)
          (both_leave w w' (HoldsOneOf (versions_left old ++ versions_left new)) (IsEither w new) (files stored).1 (behind stored))
          (λ image is. ⊎_elim (λ kept. by_version image is.0 kept) (λ gone. inr (gone.0, passed_in image gone.1)) is.1);
    }

-- ---- where the versions stay

-- each image has one of the tree's versions, beside the records from before or those from now
pub beside_versions : (w w' : World) (old new : Core) (t log : Log) → versions_left new ≡ versions_left old → LeavesOnly w w' (HoldsOneOf (versions_left old ++ versions_left new)) → LeavesOnly w w' (λ image. IsLogIn t image ⊎ IsLogIn log image)
    → LeavesOnly w w' (λ image. HoldsLog old t image ⊎ HoldsLog new log image)
beside_versions w w' old new t log same versions logs =
    weakened w w' (λ image. HoldsOneOf (versions_left old ++ versions_left new) image × (IsLogIn t image ⊎ IsLogIn log image)) (λ image. HoldsLog old t image ⊎ HoldsLog new log image)
    (both_leave w w' (HoldsOneOf (versions_left old ++ versions_left new)) (λ image. IsLogIn t image ⊎ IsLogIn log image) versions logs)
    (λ image is. ⊎_elim (λ was. inl (one_before image is.0, was)) (λ now. inr (one_now image is.0, now)) is.1)
  where
    among : (v : SeenVersion) → IsIn v (versions_left old ++ versions_left new) → IsIn v (versions_left old)
    among v i = ⊎_elim (λ j. j) (λ j. subst (IsIn v) same j) (split v (versions_left old) (versions_left new) i)

    one_before : (image : Image) → HoldsOneOf (versions_left old ++ versions_left new) image → HoldsOneOf (versions_left old) image
    one_before image one = (one.0, among one.0 one.1, one.2, one.3)

    one_now : (image : Image) → HoldsOneOf (versions_left old ++ versions_left new) image → HoldsOneOf (versions_left new) image
    one_now image one = (one.0, subst (IsIn one.0) (sym same) (among one.0 one.1), one.2, one.3)
