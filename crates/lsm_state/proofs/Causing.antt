-- Which calls of the store failed where a call of a tree tells a fault.
use Rattle.std.proofs.Common.{ℕ, ◌-◌, ◌≤◌, ◌<◌, ◌^◌, min, arith, ◌≡◌, ◌∙◌, ◌⊎◌, inl, inr, ⊎_elim, Bool, false, List, Result, Ok, Err, IfErr, OnOk, sym, ap, subst}
use Rattle.std.specs.Prelude.{is_ok}
use Rattle.lsm_below.specs.declared.error.Error.{Error}
use Rattle.lsm_below.specs.declared.error.Error.TheVariants.{OutOfMemory, Store, OutOfNumbers, AfterCommit, Unrecoverable}
use Rattle.lsm_store.specs.World.{World}
use Rattle.lsm_state.specs.declared.compaction.Begun.{Begun}
use Rattle.lsm_state.specs.declared.compaction.Begun.TheVariants.{DidNothing, Declined, Installed, Job}
use Rattle.lsm_state.specs.Core.{Core, Seen}
use Rattle.lsm_state.specs.Causes.{BlamesEnd}
use Rattle.lsm_state.specs.WholeCompactions.{Follows}
use Rattle.lsm_commit.specs.Stored.{CountsFaults}
use Rattle.lsm_commit.specs.Causes.{HasFailed, HasCause, BlamesStore, Blames, no_fault, one_fault, causes_then, causes_counted}
use Rattle.lsm_model.specs.Steps.{among}
use Rattle.lsm_state.specs.Cleaning.{AreAbsent, RemovesDrawn, RemovesTables}

-- a clean-up that isn't whole
pub unclean : {T : Type 0} (old new : World) (r : Result T Error) (whole : Bool) → whole ≡ is_ok r → IfErr r (λ e. e ≡ Store) → CountsFaults old new r → HasCause (whole ≡ false) old new
unclean old new (Ok x) whole is only counts = no_fault _ old new (counts.none (λ h. cc h) (λ h. cc h)) (λ h. cc (is, h))
unclean old new (Err e) whole is only counts = one_fault _ old new (counts.store (ap Err only))

-- files that are written, or not
not_behind : {T : Type 0} (r : Result T Error) → IfErr r (λ e. ((e ≡ OutOfMemory) ⊎ (e ≡ Store)) ⊎ (e ≡ OutOfNumbers)) → r ≡ Err AfterCommit → ⊥
not_behind (Ok x) only h = cc h
not_behind (Err e) only h = ⊎_elim (λ a. ⊎_elim (λ x. cc (h, x)) (λ x. cc (h, x)) a) (λ x. cc (h, x)) only

pub write_causes : {T : Type 0} (old new : World) (r : Result T Error) → IfErr r (λ e. ((e ≡ OutOfMemory) ⊎ (e ≡ Store)) ⊎ (e ≡ OutOfNumbers)) → CountsFaults old new r → HasCause (Blames r) old new
write_causes old new r only counts = causes_counted old new r (not_behind r only) counts

-- what is told of a compaction is told of its beginning or of its end
follows_tells : (begun r : Result Begun Error) (mid new : Core) → Follows begun r mid new → Blames r → Blames begun ⊎ BlamesEnd begun r
follows_tells (Ok DidNothing) r mid new follows told = absurd (subst Blames follows.0 told)
follows_tells (Ok (Declined why)) r mid new follows told = absurd (subst Blames follows.0 told)
follows_tells (Ok Installed) r mid new follows told = absurd (subst Blames follows.0 told)
follows_tells (Ok (Job job)) r mid new follows told = inr told
follows_tells (Err e) r mid new follows told = inl (subst Blames follows.0 told)

pub follows_cause : (w v u : World) (begun r : Result Begun Error) (mid new : Core) → Follows begun r mid new → HasCause (Blames begun) w v → HasCause (BlamesEnd begun r) v u → HasCause (Blames r) w u
follows_cause w v u begun r mid new follows first second = causes_then (Blames begun) (BlamesEnd begun r) (Blames r) w v u first second (follows_tells begun r mid new follows)

-- ---- refusals that tell no fault

pub no_memory : BlamesStore OutOfMemory → ⊥
no_memory told = ⊎_elim (λ h. cc h) (λ later. ⊎_elim (λ h. cc h) (λ h. cc h) later) told

pub no_way : BlamesStore Unrecoverable → ⊥
no_way told = ⊎_elim (λ h. cc h) (λ later. ⊎_elim (λ h. cc h) (λ h. cc h) later) told

-- ---- files that are removed after a refusal

pub removes_then : (first next : ℕ) (old mid new : World) → min old.failures (2 ^ 64 - 1) ≤ mid.failures → RemovesDrawn first next mid new → RemovesDrawn first next old new
removes_then first next old mid new rises removes = ⊎_elim (λ gone. inl gone) (λ (failed : HasFailed mid new). let more : HasFailed old new = omega (arith, rises, failed) in inr more) removes

-- where it drew ids from the first on, and those are removed after it
pub removes_drawn : {S : Type 0} (world : S → World) (first : ℕ) (old mid new : Seen S) → first ≡ old.core.next_table → new.core ≡ mid.core → min (world old.store).failures (2 ^ 64 - 1) ≤ (world mid.store).failures → (first < 2 ^ 63 → RemovesDrawn first mid.core.next_table (world mid.store) (world new.store))
    → old.core.next_table < 2 ^ 63 → RemovesDrawn old.core.next_table new.core.next_table (world old.store) (world new.store)
removes_drawn world first old mid new is same rises removes small =
    let from = subst (λ n. n < 2 ^ 63 → RemovesDrawn n mid.core.next_table (world mid.store) (world new.store)) is removes small in
    removes_then old.core.next_table new.core.next_table (world old.store) (world mid.store) (world new.store) rises (subst (λ n. RemovesDrawn old.core.next_table n (world mid.store) (world new.store)) (sym (ap (λ k. k.next_table) same)) from)

pub removes_tables : (ids : List ℕ) (old new : World) (r : Result (Unit {0}) Error) → OnOk r (AreAbsent new ids) → IfErr r (λ e. e ≡ AfterCommit) → HasCause (Blames r) old new → RemovesTables ids old new
removes_tables ids old new (Ok x) gone only causes = inl gone
removes_tables ids old new (Err e) gone only causes = inr (causes.cause (inr (inr only)))

-- after another call, and of the same ids
pub removes_behind : (xs ys : List ℕ) (old mid new : World) → min old.failures (2 ^ 64 - 1) ≤ mid.failures → ((i : ℕ) → among xs i ≡ among ys i) → RemovesTables xs mid new → RemovesTables ys old new
removes_behind xs ys old mid new rises same removes = ⊎_elim (λ (gone : AreAbsent new xs). inl (λ i is. gone i (same i ∙ is))) (λ (failed : HasFailed mid new). let more : HasFailed old new = omega (arith, rises, failed) in inr more) removes
