-- Runs of one step each, one after the other, are a run of all their steps.
use Rattle.std.specs.Prelude.{◌≡◌, ◌≤◌, ◌^◌, ℕ, max, List, [], ◌∷◌, ◌++◌, None}
use Rattle.lsm_runs.specs.Entries.{Entry, above}
use Rattle.lsm_runs.specs.World.{World}
use Rattle.lsm_runs.specs.Journal.{Map}
use Rattle.lsm_runs.specs.Steps.{IsOpened}
use Rattle.lsm_runs.specs.Views.{held}
use Rattle.lsm_runs.specs.Levels.{Levels, placed_of}
use Rattle.lsm_runs.specs.Finding.{Finds}
use Rattle.lsm_runs.specs.Ready.{OpeningLeaves}
use Rattle.lsm_runs.specs.Stored.{IsStored}
use Rattle.lsm_runs.specs.Core.{Core, state_of, versions_left, written_of}
use Rattle.lsm_runs.specs.declared.steps.Step.{Step}
use Rattle.lsm_runs.specs.After.{RunIsRight}
use Rattle.lsm_runs.specs.Compacting.{Strategies}
use Rattle.lsm_runs.specs.Dropping.{Drops}
use Rattle.lsm_runs.specs.Files.{StaysStored}
use Rattle.lsm_runs.specs.Lives.{Rise, LivesInOrder}
use Rattle.lsm_runs.specs.Moments.{RunHasMoments}
use Rattle.lsm_runs.specs.Runs.{IsPlainUse, EachAnswers}
use Rattle.lsm_runs.specs.Slots.{at_first}
use Rattle.lsm_runs.specs.Told.{Told}
use Rattle.example_crash.specs.SoFar.{SoFar}

-- Before the first step: an opened tree, as `TreeState::open_raised` leaves it, and a run of no steps on it.
abbrev pub SoFarBegins : {F : Type 0} → Drops → (F → World) → Strategies → Type 0
SoFarBegins {F} May world strategies = (m : Map) (was first is : F) (old now : Core) (opened : List Entry) → RunHasMoments world strategies [] [] (record { store = first; stage = at_first old }) is now → RunIsRight strategies [] [] old now → StaysStored (world first) (world is) old now
    → IsOpened opened m (state_of [] old) → old.lost ≡ None → IsStored (world first) (versions_left old) (written_of old) → above opened ≤ 2 ^ 63 → above opened ≤ old.seqno → ((levels : Levels) → Finds (world was).gives levels → opened ≡ held (placed_of levels))
    → ((tables : Levels) → Finds (world was).gives tables → OpeningLeaves (world was) (world first) tables) → SoFar May world m was opened old.seqno [] [] is now

-- One step more, by what `run` says of a run of this step alone.
abbrev pub SoFarGrows : {F : Type 0} → Drops → (F → World) → Strategies → Type 0
SoFarGrows {F} May world strategies = (m : Map) (was : F) (opened : List Entry) (counter : ℕ) (steps : List Step) (told : List Told) (is : F) (now : Core) → SoFar May world m was opened counter steps told is now
    → (x : Step) (t : Told) (next : F) (new : Core) → RunHasMoments world strategies (x ∷ []) (t ∷ []) (record { store = is; stage = at_first now }) next new → RunIsRight strategies (x ∷ []) (t ∷ []) now new → StaysStored (world is) (world next) now new
    → SoFar May world m was opened counter (steps ++ x ∷ []) (told ++ t ∷ []) next new

-- So it is a life, as one run of all these steps is one, whose counter started at a number or above what was found; and in plain use, where
-- numbers rise, each read answers what the replay does.
abbrev pub SoFarLives : {F : Type 0} → Drops → (F → World) → Type 0
SoFarLives {F} May world = (m : Map) (was : F) (opened : List Entry) (counter : ℕ) (steps : List Step) (told : List Told) (is : F) (now : Core) → SoFar May world m was opened counter steps told is now → (from : ℕ) → counter ≡ max from (above opened) → LivesInOrder May world from m steps told was is

abbrev pub SoFarAnswers : {F : Type 0} → Drops → (F → World) → Type 0
SoFarAnswers {F} May world = (m : Map) (was : F) (opened : List Entry) (counter : ℕ) (steps : List Step) (told : List Told) (is : F) (now : Core) → SoFar May world m was opened counter steps told is now → IsPlainUse steps → Rise opened counter steps → EachAnswers opened m [] steps told
