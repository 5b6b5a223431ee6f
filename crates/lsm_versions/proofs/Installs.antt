-- Each install of a changed version is a step.
use Rattle.std.proofs.Common.{◌≡◌, ℕ, false, List, [], ◌∷◌, ◌++◌, refl, sym, subst, ap}
use Rattle.lsm_below.specs.Keys.{Bytes}
use Rattle.lsm_below.specs.Entries.{stack, keep, IsOrdered}
use Rattle.lsm_model.specs.Journal.{Event}
use Rattle.lsm_model.specs.Views.{Placed, sources, held, chosen_of, upper_of, lower_of, left_of, ranges_of, IsAllowed, IsLaidOut, IsRearranged}
use Rattle.lsm_model.specs.Steps.{State, IsCommit, among}
use Rattle.lsm_model.specs.declared.journal.JournalEntry.TheVariants.{Install, Dropped}
use Rattle.lsm_versions.specs.Levels.{Levels, placed_of, placed_in}
use Rattle.lsm_versions.specs.Installs.{installed, FlushesAreSteps, MergesAreSteps, MovesAreSteps, DropsAreSteps}

committed : (n : ℕ) (sealed : List ℕ) (next : Levels) (events : List Event) (old : State) → IsLaidOut (placed_of next) → IsCommit events old (installed n sealed next events old)
committed n sealed next events old laid = record { journal = refl; mems = refl; active = refl; older = refl; laid = laid }

pub flushes_are_steps : FlushesAreSteps
flushes_are_steps opened w n job sealed run old levels next tables is_sealed covers placed laid kept = record {
  commit = committed n sealed next (Install n ∷ []) old laid;
  sealed = is_sealed;
  covers = covers;
  placed = subst (λ ps. IsRearranged (placed_in 0 run ++ ps) (placed_of next)) (sym tables) placed;
  kept = kept;
}

pub merges_are_steps : MergesAreSteps
merges_are_steps opened w n to ids evict run old levels next tables allowed covers placed laid kept = record {
  commit = committed n old.latest.sealed next (Install n ∷ []) old laid;
  sealed = refl;
  allowed = subst (IsAllowed to (among ids) evict) (sym tables) allowed;
  covers = covers;
  placed = subst (λ ps. IsRearranged (upper_of to (among ids) ps ++ (placed_in to run ++ lower_of to (among ids) ps)) (placed_of next)) (sym tables) placed;
  kept = subst (λ ps. IsOrdered (sources old.mems old.latest) → (k : Bytes) → stack k (held (placed_in to run)) ≡ keep w evict (stack k (held (chosen_of (among ids) ps)))) (sym tables) kept;
}

pub moves_are_steps : MovesAreSteps
moves_are_steps opened n to ids run old levels next tables allowed moved laid = record {
  commit = committed n old.latest.sealed next (Install n ∷ []) old laid;
  sealed = refl;
  allowed = subst (IsAllowed to (among ids) false) (sym tables) allowed;
  covers = moved.covers;
  placed = subst (λ ps. IsRearranged (upper_of to (among ids) ps ++ (placed_in to run ++ lower_of to (among ids) ps)) (placed_of next)) (sym tables) moved.placed;
  same = subst (λ ps. (k : Bytes) → stack k (held (placed_in to run)) ≡ stack k (held (chosen_of (among ids) ps))) (sym tables) moved.same;
}

pub drops_are_steps : DropsAreSteps
drops_are_steps opened n ids old levels next tables placed laid =
    let dropped = λ (ps : List Placed). Dropped (ranges_of (among ids) ps) n ∷ (Install n ∷ []) in
    record {
      commit = record { journal = ap (λ ps. old.journal ++ dropped ps) (sym tables); mems = refl; active = refl; older = refl; laid = laid };
      sealed = refl;
      placed = subst (λ ps. IsRearranged (left_of (among ids) ps) (placed_of next)) (sym tables) placed;
    }
