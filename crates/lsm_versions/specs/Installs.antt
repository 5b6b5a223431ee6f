-- What a changed version is to the theory: each install of one is a step.
use Rattle.std.specs.Prelude.{◌≡◌, ℕ, ◌<◌, Bool, false, List, [], ◌∷◌, ◌++◌, length, map, flat_map}
use Rattle.std.specs.List.Sorted.{IsPermutation}
use Rattle.lsm_below.specs.Keys.{Bytes}
use Rattle.lsm_below.specs.Entries.{Entry, entry_cmp, stack, keep, IsOrdered}
use Rattle.lsm_below.specs.Runs.{IsRun}
use Rattle.lsm_below.specs.Sorted.{Rises}
use Rattle.lsm_tables.specs.Cutting.{IsCutting}
use Rattle.lsm_tables.specs.Tables.{SeenTable}
use Rattle.lsm_model.specs.Journal.{Event}
use Rattle.lsm_model.specs.Views.{sources, held, chosen_of, left_of, ranges_of, IsAllowed, IsLaidOut, IsRearranged}
use Rattle.lsm_model.specs.Steps.{State, Step, Flushed, Merged, Moved, DroppedTables, AllCover, among}
use Rattle.lsm_model.specs.declared.journal.JournalEntry.TheVariants.{Install, Dropped}
use Rattle.lsm_versions.specs.Levels.{Levels, range, placed_of, placed_in, all_of, left_in, Changes, PutBetween, IsMoved}

-- a state after the install of a version under a sequence number: its tables and sealed memtables stand in a new super version
abbrev pub installed : ℕ → List ℕ → Levels → List Event → State → State
installed n sealed levels events old = record { journal = old.journal ++ events; mems = old.mems; latest = record { number = n; active = old.latest.active; sealed = sealed; tables = placed_of levels }; older = old.latest ∷ old.older }

-- a version with a new run in front is a flush, where the run holds what a compaction keeps of the job's memtables
abbrev pub FlushesAreSteps : Type 0
FlushesAreSteps = (opened : List Entry) (w n : ℕ) (job sealed : List ℕ) (run : List SeenTable) (old : State) (levels next : Levels)
    → old.latest.tables ≡ placed_of levels → old.latest.sealed ≡ sealed ++ job
    → AllCover (placed_in 0 run) → IsRearranged (placed_in 0 run ++ placed_of levels) (placed_of next) → IsLaidOut (placed_of next)
    → (IsOrdered (sources old.mems old.latest) → (k : Bytes) → stack k (held (placed_in 0 run)) ≡ keep w false (stack k (flat_map old.mems job)))
    → Step opened old (Flushed w job (placed_in 0 run)) (installed n sealed next (Install n ∷ []) old)

-- a version with a run in place of chosen tables is a merge, where the choice is allowed and the run holds what a compaction keeps of them
abbrev pub MergesAreSteps : Type 0
MergesAreSteps = (opened : List Entry) (w n to : ℕ) (ids : List ℕ) (evict : Bool) (run : List SeenTable) (old : State) (levels next : Levels)
    → old.latest.tables ≡ placed_of levels → IsAllowed to (among ids) evict (placed_of levels)
    → AllCover (placed_in to run) → PutBetween ids run to levels next → IsLaidOut (placed_of next)
    → (IsOrdered (sources old.mems old.latest) → (k : Bytes) → stack k (held (placed_in to run)) ≡ keep w evict (stack k (held (chosen_of (among ids) (placed_of levels)))))
    → Step opened old (Merged w to ids evict (placed_in to run)) (installed n old.latest.sealed next (Install n ∷ []) old)

-- a version with chosen tables as one run of a level is a move, where the choice is allowed
abbrev pub MovesAreSteps : Type 0
MovesAreSteps = (opened : List Entry) (n to : ℕ) (ids : List ℕ) (run : List SeenTable) (old : State) (levels next : Levels)
    → old.latest.tables ≡ placed_of levels → IsAllowed to (among ids) false (placed_of levels)
    → IsMoved ids run to levels next → IsLaidOut (placed_of next)
    → Step opened old (Moved to ids (placed_in to run)) (installed n old.latest.sealed next (Install n ∷ []) old)

-- a version without chosen tables is a drop
abbrev pub DropsAreSteps : Type 0
DropsAreSteps = (opened : List Entry) (n : ℕ) (ids : List ℕ) (old : State) (levels next : Levels)
    → old.latest.tables ≡ placed_of levels
    → IsRearranged (left_of (among ids) (placed_of levels)) (placed_of next) → IsLaidOut (placed_of next)
    → Step opened old (DroppedTables ids) (installed n old.latest.sealed next (Dropped (ranges_of (among ids) (placed_of levels)) n ∷ (Install n ∷ [])) old)

-- the tables into which a list is cut are a run
abbrev pub CutTablesAreRuns : Type 0
CutTablesAreRuns = (target : ℕ) (es : List Entry) (tables : List SeenTable) → Rises entry_cmp es → IsCutting target es (map (λ t. t.entries) tables) → IsRun range tables

-- a changed version has the run that came and the tables that didn't go, and no others
abbrev pub ChangesKeepTables : Type 0
ChangesKeepTables = (ids : List ℕ) (run : List SeenTable) (to : ℕ) (old new : Levels) → Changes ids run to old new → to < length old → IsPermutation (run ++ left_in ids (all_of old)) (all_of new)
