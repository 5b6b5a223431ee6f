use Rattle.std.proofs.Common.{◌≡◌, map, take, false}
use Rattle.lsm_below.specs.Slots.{rest_of}
use Rattle.lsm_compaction.specs.Merges.{sources_in}
use Rattle.lsm_compaction.proofs.merging.sources_of.Given as goal

abbrev pub invariant-loop-run : goal.invariant-loop-run
invariant-loop-run l = l.sources.items ≡ map (λ es. rest_of false es) (sources_in (take l.run-index l.runs))
