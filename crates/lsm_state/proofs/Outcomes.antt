-- The errors with which a compaction may have done something.
use Rattle.std.proofs.Common.{◌≡◌, refl}
use Rattle.lsm_below.specs.declared.error.Error.{Error}
use Rattle.lsm_below.specs.declared.error.Error.TheVariants.{CommitUnknown, AfterCommit}

-- it was done, its outcome is unknown, or nothing was done
pub data Outcome (e : Error) : Type 0 where
  IsDone : e ≡ AfterCommit → Outcome e
  IsLost : e ≡ CommitUnknown → Outcome e
  IsNothing : (e ≡ AfterCommit → ⊥) → (e ≡ CommitUnknown → ⊥) → Outcome e

pub outcome_of : (e : Error) → Outcome e
outcome_of AfterCommit = IsDone refl
outcome_of CommitUnknown = IsLost refl
outcome_of _ = IsNothing (λ h. cc h) (λ h. cc h)
