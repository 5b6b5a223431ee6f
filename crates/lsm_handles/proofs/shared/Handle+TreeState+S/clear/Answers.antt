-- The tree before and after the call is the one that the lock guards.
use Rattle.std.proofs.Common.{◌≡◌, ◌⊎◌, ⊎_elim, Result, Err, IfErr, subst}
use Rattle.lsm_below.specs.declared.error.Error.{Error}
use Rattle.lsm_below.specs.declared.error.Error.TheVariants.{OutOfMemory, Store, CommitUnknown, OutOfNumbers, Unrecoverable, AfterCommit}
use Rattle.lsm_commit.specs.Causes.{causes_counted}
use Rattle.lsm_handles.proofs.shared.Handle+TreeState+S.clear.Goals as goal

not_after : {T : Type 0} (r : Result T Error) → IfErr r (λ e. ((e ≡ OutOfMemory) ⊎ (e ≡ Store)) ⊎ ((e ≡ CommitUnknown) ⊎ ((e ≡ OutOfNumbers) ⊎ (e ≡ Unrecoverable)))) → r ≡ Err AfterCommit → ⊥
not_after {T} r only after = ⊎_elim (λ some. ⊎_elim (λ h. cc h) (λ h. cc h) some) (λ more. ⊎_elim (λ h. cc h) (λ others. ⊎_elim (λ h. cc h) (λ h. cc h) others) more)
    (subst (λ (x : Result T Error). IfErr x (λ e. ((e ≡ OutOfMemory) ⊎ (e ≡ Store)) ⊎ ((e ≡ CommitUnknown) ⊎ ((e ≡ OutOfNumbers) ⊎ (e ≡ Unrecoverable))))) after only)

pub returns : goal.returns
returns g c =
    let told = c.clear-told in
    let w = g.S.Store.world in
    let causes = causes_counted (w c.deref_mut-tree.result.now.store) (w told.new.self.store) told.result (not_after told.result told.ensures.clears.only) told.ensures.counts in
    (c.deref_mut-tree.result.now, told.new.self, told.ensures.clears, told.ensures.upholds, record { causes = causes; no_call = told.ensures.no_call }, c.facts.ensures, c.facts-2.ensures)
