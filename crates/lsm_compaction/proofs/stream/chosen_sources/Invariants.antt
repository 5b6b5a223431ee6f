use Rattle.std.proofs.Common.{◌≡◌, ◌++◌, map, filter, false}
use Rattle.lsm_below.specs.Slots.{rest_of}
use Rattle.lsm_model.specs.Steps.{among}
use Rattle.lsm_versions.specs.Levels.{chosen_from}
use Rattle.lsm_compaction.proofs.stream.chosen_sources.Given as goal

-- what is there, and what is left
abbrev pub invariant-loop-table : goal.invariant-loop-table
invariant-loop-table l = l.sources.items ++ map (λ t. rest_of false t.entries) (filter (λ t. among l.ids.keys t.id) l.table-iterator) ≡ map (λ t. rest_of false t.entries) (chosen_from l.ids.keys l.version.levels)
