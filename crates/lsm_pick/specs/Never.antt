-- Which strategies never drop: whatever the levels are, and whatever is hidden.
use Rattle.std.specs.Prelude.{ℕ, List}
use Rattle.lsm_versions.specs.Levels.{Levels}
use Rattle.lsm_pick.specs.declared.choice.Choice.{Choice}
use Rattle.lsm_pick.specs.declared.choice.Choice.TheVariants.{DoNothing, Move, Merge, Drop}
use Rattle.lsm_pick.specs.LeveledRule.{LeveledRule}
use Rattle.lsm_pick.specs.Leveled.{MayLeveled}
use Rattle.lsm_pick.specs.Simple.{MayMajor}

-- the choice isn't to drop tables
abbrev pub DropsNone : Choice → Type 0
DropsNone DoNothing = Unit {0}
DropsNone (Move input) = Unit {0}
DropsNone (Merge input) = Unit {0}
DropsNone (Drop ids) = ⊥

abbrev pub LeveledNeverDrops : Type 0
LeveledNeverDrops = (rule : LeveledRule) (hidden : List ℕ) (levels : Levels) (choice : Choice) → MayLeveled rule hidden levels choice → DropsNone choice

abbrev pub MajorNeverDrops : Type 0
MajorNeverDrops = (target : ℕ) (hidden : List ℕ) (levels : Levels) (choice : Choice) → MayMajor target hidden levels choice → DropsNone choice
