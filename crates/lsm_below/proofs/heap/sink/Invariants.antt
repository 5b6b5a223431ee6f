use Rattle.std.proofs.Common.{◌≡◌, ◌+◌, ◌-◌, ◌<◌, ◌≤◌, ℕ, length, map, get_or, option_map}
use Rattle.std.specs.List.Sorted.{IsPermutation}
use Rattle.lsm_below.specs.Slots.{slot_before, IsHeapFrom}
use Rattle.lsm_below.proofs.Heaps.{slot_order, HeapBut}
use Rattle.lsm_below.proofs.heap.sink.Given as goal

abbrev pub invariant-loop-at : goal.invariant-loop-at
invariant-loop-at g l = record {
  below : l.place ≤ l.at;
  same : IsPermutation l.initial.order l.order;
  above : (p : ℕ) → p < l.place → get_or l.order p 0 ≡ get_or l.initial.order p 0;
  heap : IsHeapFrom (slot_before (map (λ s. option_map g.S.Item.AsEntry.shows s.head) l.slots)) (l.place + 1) l.initial.order → HeapBut (slot_order (map (λ s. option_map g.S.Item.AsEntry.shows s.head) l.slots)) (λ i. get_or l.order i 0) (length l.order) l.place l.at;
}

abbrev pub decreases-loop-at : goal.decreases-loop-at
decreases-loop-at g l = length l.order - l.at
