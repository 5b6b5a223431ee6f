-- What the end of a merge is to the theory.
use Rattle.std.specs.Prelude.{◌≡◌, ℕ, Bool, List, [], ◌∷◌}
use Rattle.lsm_below.specs.Entries.{Entry}
use Rattle.lsm_tables.specs.Tables.{SeenTable}
use Rattle.lsm_model.specs.Views.{IsAllowed, IsLaidOut}
use Rattle.lsm_model.specs.Steps.{State, Step, Merged, AllCover, among}
use Rattle.lsm_model.specs.declared.journal.JournalEntry.TheVariants.{Install}
use Rattle.lsm_versions.specs.Levels.{Levels, placed_of, placed_in, PutBetween}
pub use Rattle.lsm_versions.specs.Chosen.{Keeps}
use Rattle.lsm_versions.specs.Installs.{installed}
use Rattle.lsm_checks.specs.Choices.{HoldSame}

-- a version with a run in place of chosen tables is a merge, where the inputs were read before, and still hold what those do
abbrev pub MergesOfInputsAreSteps : Type 0
MergesOfInputsAreSteps = (opened : List Entry) (w n to : ℕ) (ids : List ℕ) (evict : Bool) (inputs run : List SeenTable) (old : State) (levels next : Levels)
    → old.latest.tables ≡ placed_of levels → IsAllowed to (among ids) evict (placed_of levels)
    → AllCover (placed_in to run) → PutBetween ids run to levels next → IsLaidOut (placed_of next)
    → HoldSame inputs ids levels → Keeps w evict inputs run
    → Step opened old (Merged w to ids evict (placed_in to run)) (installed n old.latest.sealed next (Install n ∷ []) old)
