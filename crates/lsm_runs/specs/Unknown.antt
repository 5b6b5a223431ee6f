-- What a run does where the outcome of a commit is unknown.
use Rattle.std.specs.Prelude.{◌≡◌, List, [], ◌∷◌, IsSome}
use Rattle.lsm_state.specs.Core.{Core}
use Rattle.lsm_runs.specs.declared.steps.Step.{Step}
use Rattle.lsm_runs.specs.Compacting.{Strategies}
use Rattle.lsm_runs.specs.Runs.{Takes}
use Rattle.lsm_runs.specs.Slots.{Stage, at_first}
use Rattle.lsm_runs.specs.Told.{Told}

-- where the outcome of a commit is unknown the store isn't called, and it stays unknown
abbrev pub StaysUnknown : {F : Type 0} → F → F → Core → Core → Type 0
StaysUnknown was is old new = IsSome old.lost → (is ≡ was) × (new.lost ≡ old.lost)

-- the steps, one after the other, each of which leaves it so
abbrev pub RanUnknown : {F : Type 0} → Strategies → List Step → List Told → Stage → Stage → F → F → Type 0
RanUnknown strategies [] [] old new was is = (new ≡ old) × (is ≡ was)
RanUnknown {F} strategies (x ∷ xs) (t ∷ ts) old new was is = (mid : Stage) × (store : F) × Takes strategies x t.reply t.entries old mid × StaysUnknown was store old.core mid.core × RanUnknown strategies xs ts mid new store is
RanUnknown strategies [] (t ∷ ts) old new was is = ⊥
RanUnknown strategies (x ∷ xs) [] old new was is = ⊥

-- after each step the whole rest of a run leaves it so
abbrev pub StopsBehind : {F : Type 0} → Strategies → List Step → List Told → Stage → Stage → F → F → Type 0
StopsBehind strategies [] [] old new was is = (new ≡ old) × (is ≡ was)
StopsBehind {F} strategies (x ∷ xs) (t ∷ ts) old new was is = (mid : Stage) × (store : F) × Takes strategies x t.reply t.entries old mid × StaysUnknown store is mid.core new.core × StopsBehind strategies xs ts mid new store is
StopsBehind strategies [] (t ∷ ts) old new was is = ⊥
StopsBehind strategies (x ∷ xs) [] old new was is = ⊥

-- From where the outcome of a commit is unknown on a run makes no commit and removes nothing, since it doesn't call the store; both
-- outcomes stand.
abbrev pub RunStops : {F : Type 0} → Strategies → List Step → List Told → F → F → Core → Core → Type 0
RunStops strategies steps told was is old new = StaysUnknown was is old new × ((last : Stage) × StopsBehind strategies steps told (at_first old) last was is)
