use Rattle.std.proofs.Common.{◌≡◌, ◌++◌, map, None}
use Rattle.std.specs.Vec.Iter.{into_iter_items}
use Rattle.lsm_below.proofs.merger.slots_of.Given as goal

abbrev pub invariant-loop-source : goal.invariant-loop-source
invariant-loop-source g l = l.slots.items ++ map (λ s. record { head = None; source = s }) (into_iter_items l.source-iterator) ≡ map (λ s. record { head = None; source = s }) l.fn.sources.items
