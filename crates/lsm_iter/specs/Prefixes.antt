-- Keys that begin alike.
use Rattle.std.specs.Prelude.{◌≡◌, true, ◌&&◌}
use Rattle.std.specs.Ordering.{is_le}
use Rattle.std.specs.declared.ops.Bound.{Bound}
use Rattle.lsm_below.specs.Keys.{Bytes, AreBytes, bytes_cmp}
use Rattle.lsm_model.specs.Journal.{is_to}
use Rattle.lsm_iter.specs.Shown.{lies_within, begins_with}

-- of the keys that aren't below the prefix, those within the upper bound begin with it
abbrev pub Follows : Bytes → Bound Bytes → Type 0
Follows prefix upper = (key : Bytes) → AreBytes key → (is_le (bytes_cmp prefix key) && is_to upper key) ≡ begins_with prefix key

-- of keys the bounds let in just those that begin with the prefix
abbrev pub LetsInJust : Bytes → Bound Bytes → Bound Bytes → Type 0
LetsInJust prefix low high = (key : Bytes) → AreBytes key → lies_within low high key ≡ begins_with prefix key

-- whatever begins with the prefix isn't below it, and lies within the upper bound
abbrev pub LetsIn : Bytes → Bound Bytes → Type 0
LetsIn prefix upper = (key : Bytes) → begins_with prefix key ≡ true → (is_le (bytes_cmp prefix key) && is_to upper key) ≡ true
