-- Why an answer blames the store: a call of it failed meanwhile.
use Rattle.std.proofs.Common.{◌≡◌, ◌⊎◌, ⊎_elim, ◌+◌, ◌-◌, ◌≤◌, ◌^◌, min, Result, Ok, Err, arith, refl}
use Rattle.lsm_below.specs.declared.error.Error.{Error}
use Rattle.lsm_below.specs.declared.error.Error.TheVariants.{Store, CommitUnknown, AfterCommit}
use Rattle.lsm_store.specs.World.{World}
use Rattle.lsm_commit.specs.Stored.{CountsFaults}

-- a call of the store failed meanwhile: the count rose, or stands at its end
abbrev pub HasFailed : World → World → Type 0
HasFailed old new = min (old.failures + 1) (2 ^ 64 - 1) ≤ new.failures

-- the count of failures didn't fall, and where the store is blamed, a call of it failed meanwhile
pub record HasCause (Blamed : Type 0) (old new : World) : Type 0 where
  pub rises : min old.failures (2 ^ 64 - 1) ≤ new.failures
  pub cause : Blamed → HasFailed old new

-- the error blames the store
abbrev pub BlamesStore : Error → Type 0
BlamesStore e = (e ≡ Store) ⊎ ((e ≡ CommitUnknown) ⊎ (e ≡ AfterCommit))

-- the answer is such an error
abbrev pub Blames : {T : Type 0} → Result T Error → Type 0
Blames (Ok x) = ⊥
Blames (Err e) = BlamesStore e

-- ---- what leads there

-- no call failed, and none is blamed
pub no_fault : (Blamed : Type 0) (old new : World) → new.failures ≡ old.failures → (Blamed → ⊥) → HasCause Blamed old new
no_fault Blamed old new same isnt = record { rises = omega (arith, same); cause = λ blamed. absurd (isnt blamed) }

-- one call failed
pub one_fault : (Blamed : Type 0) (old new : World) → new.failures ≡ min (old.failures + 1) (2 ^ 64 - 1) → HasCause Blamed old new
one_fault Blamed old new more = record { rises = omega (arith, more); cause = λ blamed. omega (arith, more) }

-- a call after another: what both are blamed for, one of them is
pub causes_then : (A B Blamed : Type 0) (old mid new : World) → HasCause A old mid → HasCause B mid new → (Blamed → A ⊎ B) → HasCause Blamed old new
causes_then A B Blamed old mid new a b which =
    let p = a.rises in
    let q = b.rises in
    record {
      rises = omega (arith, p, q);
      cause = λ blamed. ⊎_elim (λ x. let f = a.cause x in omega (arith, f, q)) (λ y. let f = b.cause y in omega (arith, f, p)) (which blamed);
    }

-- less is blamed
pub causes_less : (A Blamed : Type 0) (old new : World) → HasCause A old new → (Blamed → A) → HasCause Blamed old new
causes_less A Blamed old new a less = record { rises = a.rises; cause = λ blamed. a.cause (less blamed) }

-- where the count is exact, and `AfterCommit` isn't blamed
pub causes_counted : {T : Type 0} (old new : World) (r : Result T Error) → (r ≡ Err AfterCommit → ⊥) → CountsFaults old new r → HasCause (Blames r) old new
causes_counted old new (Ok x) before c = no_fault _ old new (c.none (λ h. cc h) (λ h. cc h)) (λ blamed. blamed)
causes_counted old new (Err Store) before c = one_fault _ old new (c.store refl)
causes_counted old new (Err CommitUnknown) before c = one_fault _ old new (c.unknown refl)
causes_counted old new (Err AfterCommit) before c = absurd (before refl)
causes_counted old new (Err _) before c = no_fault _ old new (c.none (λ h. cc h) (λ h. cc h)) (λ blamed. ⊎_elim (λ h. cc h) (λ later. ⊎_elim (λ h. cc h) (λ h. cc h) later) blamed)
