use Rattle.std.proofs.Common.{◌≡◌, map, take, false}
use Rattle.lsm_below.specs.Slots.{rest_of}
use Rattle.lsm_flush.specs.Jobs.{entries_in}
use Rattle.lsm_flush.proofs.merging.sources_of.Given as goal

abbrev pub invariant-loop-memtable : goal.invariant-loop-memtable
invariant-loop-memtable l = map (λ s. rest_of s.over s.entries) l.sources.items ≡ map (λ es. rest_of false es) (entries_in (take l.memtable-index l.memtables))
