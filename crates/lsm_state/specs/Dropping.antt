-- Which tables a strategy may drop, and the ranges that such a drop tells.
use Rattle.std.specs.Prelude.{◌≡◌, ℕ, List}
use Rattle.lsm_below.specs.Ranges.{Range}
use Rattle.lsm_model.specs.Steps.{among}
use Rattle.lsm_model.specs.Views.{ranges_of}
use Rattle.lsm_versions.specs.declared.config.Config.{Config}
use Rattle.lsm_versions.specs.Levels.{Levels, SeenVersion, placed_of}
use Rattle.lsm_pick.specs.declared.choice.Choice.{Choice}
use Rattle.lsm_pick.specs.declared.choice.Choice.TheVariants.{DoNothing, Move, Merge, Drop}
use Rattle.lsm_pick.specs.Never.{DropsNone}
use Rattle.lsm_state.specs.Core.{Core}
use Rattle.lsm_state.specs.Compactions.{Relation, MayAnswer, levels_of}

-- the choice is to drop the tables of these ids
abbrev pub IsDropOf : Choice → List ℕ → Type 0
IsDropOf DoNothing ids = ⊥
IsDropOf (Move input) ids = ⊥
IsDropOf (Merge input) ids = ⊥
IsDropOf (Drop set) ids = set.keys ≡ ids

-- the ranges of the tables of these ids, level by level: what a drop of them tells
abbrev pub ranges_at : List ℕ → Levels → List Range
ranges_at ids levels = ranges_of (among ids) (placed_of levels)

-- a strategy of this relation, asked of this tree, may answer to drop just the tables of these ids
abbrev pub MayDropIds : Relation Choice → Core → List ℕ → Type 0
MayDropIds may c ids = (choice : Choice) × MayAnswer may c choice × IsDropOf choice ids

-- so it may drop these ranges
abbrev pub DropsFrom : Relation Choice → Core → List Range → Type 0
DropsFrom may c ranges = (ids : List ℕ) × MayDropIds may c ids × (ranges ≡ ranges_at ids (levels_of c))

-- asked of some version: where no tree is in view
pub record DropsSome (may : Relation Choice) (ranges : List Range) : Type 0 where
  pub config : Config
  pub hidden : List ℕ
  pub version : SeenVersion
  pub choice : Choice
  pub ids : List ℕ
  pub may_be : may config hidden version choice
  pub drops : IsDropOf choice ids
  pub ranges_are : ranges ≡ ranges_at ids version.levels

-- a strategy of this relation never drops
abbrev pub NeverDrops : Relation Choice → Type 0
NeverDrops may = (config : Config) (hidden : List ℕ) (version : SeenVersion) (choice : Choice) → may config hidden version choice → DropsNone choice

-- ---- lemmas, for proofs of every crate

no_drop : (choice : Choice) (ids : List ℕ) → DropsNone choice → IsDropOf choice ids → ⊥
no_drop DoNothing ids none is = is
no_drop (Move input) ids none is = is
no_drop (Merge input) ids none is = is
no_drop (Drop set) ids none is = none

pub drops_some : (may : Relation Choice) (c : Core) (ranges : List Range) → DropsFrom may c ranges → DropsSome may ranges
drops_some may c ranges d =
    let asked = d.1.1 in
    record { config = c.config; hidden = asked.0; version = c.history.latest.version; choice = d.1.0; ids = d.0; may_be = asked.2; drops = d.1.2; ranges_are = d.2 }

pub never_some : (may : Relation Choice) → NeverDrops may → (ranges : List Range) → DropsSome may ranges → ⊥
never_some may never ranges d = no_drop d.choice d.ids (never d.config d.hidden d.version d.choice d.may_be) d.drops
