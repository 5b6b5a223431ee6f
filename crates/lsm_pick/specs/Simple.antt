-- What Major and DropRange may answer.
use Rattle.std.specs.Prelude.{ℕ, Bool, ◌&&◌, List, filter, true, false, Option, Some, None}
use Rattle.std.specs.Bool.{MatchBool}
use Rattle.std.specs.declared.ops.Bound.{Bound}
use Rattle.std.specs.declared.ops.Bound.TheVariants.{Included, Excluded, Unbounded}
use Rattle.lsm_below.specs.Keys.{Bytes, is_below}
use Rattle.lsm_below.specs.Ranges.{Range}
use Rattle.lsm_tables.specs.Tables.{SeenTable}
use Rattle.lsm_versions.specs.Levels.{Levels, range, all_of}
use Rattle.lsm_pick.specs.declared.bounds.OwnedBounds.{OwnedBounds}
use Rattle.lsm_pick.specs.declared.choice.Choice.{Choice}
use Rattle.lsm_pick.specs.Tables.{is_upto, is_any_hidden}
use Rattle.lsm_pick.specs.Picks.{IsNothing, IsMerge, IsDrop}

-- nothing where a table is hidden, else a merge of all into the last level
abbrev pub MayMajor : ℕ → List ℕ → Levels → Choice → Type 0
MayMajor target hidden levels choice =
    MatchBool (is_any_hidden hidden (all_of levels)) (IsNothing choice) (IsMerge choice (all_of levels) 6 6 target)

-- a key at or after the start of the bounds
abbrev pub is_from : Bound Bytes → Bytes → Bool
is_from (Included a) k = is_upto a k
is_from (Excluded a) k = is_below a k
is_from Unbounded k = true

-- a key at or before their end
abbrev pub is_to : Bound Bytes → Bytes → Bool
is_to (Included b) k = is_upto k b
is_to (Excluded b) k = is_below k b
is_to Unbounded k = true

-- the key of a bound, if it has one
abbrev pub key_of : Bound Bytes → Option Bytes
key_of (Included a) = Some a
key_of (Excluded a) = Some a
key_of Unbounded = None

-- both have a key, and the second one is below the first
abbrev pub do_fall : Option Bytes → Option Bytes → Bool
do_fall None b = false
do_fall (Some a) None = false
do_fall (Some a) (Some b) = is_below b a

-- the key of their end is below that of their start
abbrev pub are_reversed : OwnedBounds → Bool
are_reversed bounds = do_fall (key_of bounds.start) (key_of bounds.end)

-- the whole range lies within
abbrev pub holds : OwnedBounds → Range → Bool
holds bounds r = is_from bounds.start r.min && is_to bounds.end r.max

-- the tables whose whole range lies within
abbrev pub bounded : OwnedBounds → Levels → List SeenTable
bounded bounds levels = filter (λ t. holds bounds (range t)) (all_of levels)

-- nothing where one of the tables within is hidden, else a drop of them, also of none
abbrev pub MayDropRange : OwnedBounds → List ℕ → Levels → Choice → Type 0
MayDropRange bounds hidden levels choice =
    MatchBool (is_any_hidden hidden (bounded bounds levels)) (IsNothing choice) (IsDrop choice (bounded bounds levels))
