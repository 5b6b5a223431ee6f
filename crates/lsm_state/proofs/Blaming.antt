-- Why an opening, and a look before it, are refused: which calls of the store failed.
use Rattle.std.proofs.Common.{◌≡◌, ⊎_elim, ◌+◌, ◌-◌, ◌^◌, min, Ok, Err, IsErrOf, ap, ◌∙◌, arith}
use Rattle.lsm_below.specs.declared.error.Error.{Error}
use Rattle.lsm_below.specs.declared.error.Error.TheVariants.{Store, CommitUnknown}
use Rattle.lsm_store.specs.World.{Image, World}
use Rattle.lsm_commit.specs.Causes.{HasFailed}
use Rattle.lsm_commit.specs.Stored.{CountsFaults}
use Rattle.lsm_log.specs.Logs.{HasBadName, IsBadLog}

-- no record is numbered so high
pub bad_name : (image : Image) → IsBadLog image (2 ^ 64 - 1) → HasBadName image
bad_name image bad = ⊎_elim (λ name. name) (λ high. let small = high.1.small in let le = high.2 in absurd (omega (arith, small, le))) bad

-- none failed in a call that is answered
pub none_counted : {T : Type 0} (old new : World) (x : T) → CountsFaults old new (Ok x) → new.failures ≡ old.failures
none_counted old new x counts = counts.none (λ h. cc h) (λ h. cc h)

-- one failed in a call, and none before it
pub one_failed : (old mid new : World) → mid.failures ≡ old.failures → new.failures ≡ min (mid.failures + 1) (2 ^ 64 - 1) → HasFailed old new
one_failed old mid new same more = omega (arith, same, more)

-- a call that is refused, after those that are answered
pub counted_behind : {A B : Type 0} (old mid new : World) (e : Error) → mid.failures ≡ old.failures → CountsFaults {T = A} mid new (Err e) → CountsFaults {T = B} old new (Err e)
counted_behind {A} {B} old mid new e same counts = record {
  store = λ h. counts.store (ap Err (err_is e Store h)) ∙ more;
  unknown = λ h. counts.unknown (ap Err (err_is e CommitUnknown h)) ∙ more;
  none = λ s u. counts.none (λ h. s (ap Err (err_is e Store h))) (λ h. u (ap Err (err_is e CommitUnknown h))) ∙ same;
}
  where
    more : min (mid.failures + 1) (2 ^ 64 - 1) ≡ min (old.failures + 1) (2 ^ 64 - 1)
    more = ap (λ n. min (n + 1) (2 ^ 64 - 1)) same

    err_is : {T : Type 0} (e f : Error) → IsErrOf {T = T} (Err e) f → e ≡ f
    err_is e f h = cc h

-- and none after them
pub none_behind : {T : Type 0} (old new : World) (x : T) → new.failures ≡ old.failures → CountsFaults old new (Ok x)
none_behind old new x same = record { store = λ h. absurd (cc h); unknown = λ h. absurd (cc h); none = λ s u. same }
