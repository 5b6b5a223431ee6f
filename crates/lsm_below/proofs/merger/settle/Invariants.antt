use Rattle.std.proofs.Common.{◌≡◌, map, option_map}
use Rattle.lsm_below.specs.Slots.{all_of, IsQueue}
use Rattle.lsm_below.proofs.merger.settle.Given as goal

abbrev pub invariant-loop-place : goal.invariant-loop-place
invariant-loop-place g l = record {
  same : map (λ s. all_of (option_map g.S.Item.AsEntry.shows s.head) (g.S.Source.rest s.source).entries) l.slots ≡ map (λ s. all_of (option_map g.S.Item.AsEntry.shows s.head) (g.S.Source.rest s.source).entries) l.initial.slots;
  queue : IsQueue (map (λ s. option_map g.S.Item.AsEntry.shows s.head) l.slots) (map (λ s. all_of (option_map g.S.Item.AsEntry.shows s.head) (g.S.Source.rest s.source).entries) l.slots) l.order.items l.place;
}

abbrev pub decreases-loop-place : goal.decreases-loop-place
decreases-loop-place g l = l.place
