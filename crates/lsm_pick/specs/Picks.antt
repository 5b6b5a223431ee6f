-- What a choice says.
use Rattle.std.specs.Prelude.{◌≡◌, ℕ, List}
use Rattle.lsm_tables.specs.Tables.{SeenTable}
use Rattle.lsm_checks.specs.Choices.{AreIdsOf}
use Rattle.lsm_checks.specs.declared.input.Input.{Input}
use Rattle.lsm_pick.specs.declared.choice.Choice.{Choice}
use Rattle.lsm_pick.specs.declared.choice.Choice.TheVariants.{DoNothing, Merge, Move, Drop}

-- the input has just these tables, this destination, canonical level and target size
pub record IsInput (input : Input) (ts : List SeenTable) (to from size : ℕ) : Type 0 where
  pub tables : AreIdsOf input.table_ids.keys ts
  pub dest : input.dest_level ≡ to
  pub canonical : input.canonical_level ≡ from
  pub target : input.target_size ≡ size

-- nothing is done
abbrev pub IsNothing : Choice → Type 0
IsNothing DoNothing = Unit {0}
IsNothing (Merge input) = ⊥
IsNothing (Move input) = ⊥
IsNothing (Drop ids) = ⊥

-- these tables are merged
abbrev pub IsMerge : Choice → List SeenTable → ℕ → ℕ → ℕ → Type 0
IsMerge DoNothing ts dest canonical target = ⊥
IsMerge (Merge input) ts dest canonical target = IsInput input ts dest canonical target
IsMerge (Move input) ts dest canonical target = ⊥
IsMerge (Drop ids) ts dest canonical target = ⊥

-- these tables are moved
abbrev pub IsMove : Choice → List SeenTable → ℕ → ℕ → ℕ → Type 0
IsMove DoNothing ts dest canonical target = ⊥
IsMove (Merge input) ts dest canonical target = ⊥
IsMove (Move input) ts dest canonical target = IsInput input ts dest canonical target
IsMove (Drop ids) ts dest canonical target = ⊥

-- these tables are dropped
abbrev pub IsDrop : Choice → List SeenTable → Type 0
IsDrop DoNothing ts = ⊥
IsDrop (Merge input) ts = ⊥
IsDrop (Move input) ts = ⊥
IsDrop (Drop ids) ts = AreIdsOf ids.keys ts
