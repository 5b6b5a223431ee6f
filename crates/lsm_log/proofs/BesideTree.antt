-- Names of a log are none of a tree's.
use Rattle.std.proofs.Common.{◌≡◌, ◌≢◌, ⊎_elim, ℕ, List, get_or, refl, sym, ap, subst, arith}
use Rattle.lsm_store.specs.World.{World, LeavesOnly}
use Rattle.lsm_store.specs.Synced.{KeepsOthers}
use Rattle.lsm_store.specs.Moments.{weakened}
use Rattle.lsm_manifest.specs.declared.kinds.NameKind.TheVariants.{Other}
use Rattle.lsm_manifest.specs.Names.{current_name}
use Rattle.lsm_manifest.specs.Kinds.{kind_of}
use Rattle.lsm_commit.specs.Foreign.{IsForeign, KeepsOwn, ChangesForeign}
use Rattle.lsm_log.specs.LogNames.{record_name}
use Rattle.lsm_log.specs.Changes.{IsPut, ClearsRecords, AreCleared}

record_is_other : (k : ℕ) → kind_of (record_name k) ≡ Other
unfolding kind_of
record_is_other k = refl

record_not_current : (k : ℕ) → record_name k ≢ current_name
record_not_current k e = let first = ap (λ (l : List ℕ). get_or l 0 0) e in omega (arith, first)

record_is_foreign : (k : ℕ) → IsForeign (record_name k)
record_is_foreign k = record { other = record_is_other k; not_current = record_not_current k }

-- a name that isn't foreign is no record's
no_record : (n : List ℕ) → (IsForeign n → ⊥) → (k : ℕ) → n ≢ record_name k
no_record n own k e = own (subst IsForeign (sym e) (record_is_foreign k))

-- what changes names of records alone
pub put_changes : (number : ℕ) (bytes : List ℕ) (old new : World) → KeepsOthers (record_name number) old new → LeavesOnly old new (IsPut number bytes old) → ChangesForeign old new
put_changes number bytes old new keeps leaves = record {
  may = λ n c own may. (keeps.may n c (no_record n own number)).0 may;
  leaves = weakened old new (IsPut number bytes old) (KeepsOwn old) leaves (λ image is n own. is.elsewhere n (no_record n own number));
}

pub clears_change : (P : ℕ → Type 0) (old new : World) → ClearsRecords P old new → LeavesOnly old new (AreCleared P old) → ChangesForeign old new
clears_change P old new clears leaves = record {
  may = λ n c own may. ⊎_elim (λ was. was) (λ gone. absurd (no_record n own gone.1.0 gone.1.2)) (clears.may n c may);
  leaves = weakened old new (AreCleared P old) (KeepsOwn old) leaves (λ image is n own. ⊎_elim (λ was. was) (λ gone. absurd (no_record n own gone.1.0 gone.1.2)) (is n));
}
