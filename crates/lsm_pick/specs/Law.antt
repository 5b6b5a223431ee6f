-- When a choice is allowed, and what it leaves: the law of Leveled.
use Rattle.std.specs.Prelude.{◌≡◌, ℕ, ◌<◌, ◌≤◌, true, false, List, [], length, slice_index_or, None}
use Rattle.std.specs.List.{list_any, AllByRecursion}
use Rattle.lsm_below.specs.Runs.{IsRun}
use Rattle.lsm_tables.specs.Tables.{SeenTable}
use Rattle.lsm_model.specs.Steps.{among}
use Rattle.lsm_versions.specs.Levels.{Levels, SeenVersion, range, chosen_from, IsVersion, IsNext, Moves}
use Rattle.lsm_checks.specs.declared.input.Input.{Input}
use Rattle.lsm_checks.specs.declared.choice.Kind.{Kind}
use Rattle.lsm_checks.specs.declared.choice.Kind.TheVariants.{Merge as ToMerge, Move as ToMove}
use Rattle.lsm_checks.specs.Choices.{first_reason_of}
use Rattle.lsm_pick.specs.declared.choice.Choice.{Choice}
use Rattle.lsm_pick.specs.declared.choice.Choice.TheVariants.{DoNothing, Merge, Move, Drop}
use Rattle.lsm_pick.specs.Tables.{is_inside}
use Rattle.lsm_pick.specs.LeveledRule.{LeveledRule}
use Rattle.lsm_pick.specs.Leveled.{MayLeveled}

-- each level from 1 on is empty or one run
abbrev pub AreFlat : Levels → Type 0
AreFlat levels = (i : ℕ) → 0 < i → length (slice_index_or levels i []) ≤ 1

-- no reason holds against doing this with the named tables, unless one of them is hidden
abbrev pub IsAllowed : Kind → Input → Levels → Type 0
IsAllowed kind input levels =
    (hidden : List ℕ) → list_any (among hidden) input.table_ids.keys ≡ false →
    first_reason_of kind input.table_ids.keys input.dest_level hidden levels ≡ None

-- what a merge of the named tables may make: a run, each table within their range
pub record IsMade (ids : List ℕ) (levels : Levels) (made : List SeenTable) : Type 0 where
  pub run : IsRun range made
  pub within : AllByRecursion (λ t. is_inside (chosen_from ids levels) t ≡ true) made

-- whatever a merge of the named tables makes, the next version is flat
abbrev pub MergesFlat : Input → SeenVersion → Type 0
MergesFlat input old =
    (made : List SeenTable) (new : SeenVersion) → IsMade input.table_ids.keys old.levels made →
    IsNext input.table_ids.keys made input.dest_level 0 old new → AreFlat new.levels

-- whatever run they are moved as, it is
abbrev pub MovesFlat : Input → SeenVersion → Type 0
MovesFlat input old =
    (new : SeenVersion) → Moves input.table_ids.keys input.dest_level old new → AreFlat new.levels

-- nothing, or an allowed merge or move that leaves the levels flat; never a drop
abbrev pub IsLawful : SeenVersion → Choice → Type 0
IsLawful old DoNothing = Unit {0}
IsLawful old (Merge input) = IsAllowed ToMerge input old.levels × MergesFlat input old
IsLawful old (Move input) = IsAllowed ToMove input old.levels × MovesFlat input old
IsLawful old (Drop ids) = ⊥

-- the law: of a version with flat levels, what Leveled may answer is lawful, whatever is hidden
abbrev pub LeveledLaw : Type 0
LeveledLaw =
    (rule : LeveledRule) (hidden : List ℕ) (old : SeenVersion) (choice : Choice) → IsVersion old.levels →
    AreFlat old.levels → MayLeveled rule hidden old.levels choice → IsLawful old choice
