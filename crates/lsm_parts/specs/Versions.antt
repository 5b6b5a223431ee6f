-- Versions as reads want them.
use Rattle.std.specs.Prelude.{◌≡◌, length}
use Rattle.std.specs.List.{AllByRecursion}
use Rattle.lsm_below.specs.Entries.{entry_cmp}
use Rattle.lsm_below.specs.Sorted.{Rises}
use Rattle.lsm_model.specs.Views.{IsLaidOut}
pub use Rattle.lsm_versions.specs.Levels.{SeenVersion, empty_levels, placed_of, tables_shown}

-- a version has seven levels, whose tables hold only keys of their ranges, each key and sequence number once and in order
pub record IsLaid (v : SeenVersion) : Type 0 where
  pub seven : length v.levels ≡ 7
  pub laid : IsLaidOut (placed_of v.levels)
  pub rise : AllByRecursion (λ p. Rises entry_cmp p.table.entries) (placed_of v.levels)
