use Rattle.std.proofs.Common.{◌<◌, ◌∙◌, sym, arith, length, map, get_or, option_map}
use Rattle.std.proofs.lemmas.List.Edits.{swapped_from_swap}
use Rattle.std.proofs.lemmas.List.Sorted.{IsPermutation-trans, All-permutation}
use Rattle.lsm_below.proofs.Heaps.{slot_order, heap_at_rest, heap_sunk}
use Rattle.lsm_below.proofs.heap.sink.Goals as goal

pub first_below-below-requires-clause-inside : goal.first_below-below-requires-clause-inside
first_below-below-requires-clause-inside g c = All-permutation (λ i. i < length c.args.slots.now) c.args.order.now c.loop-at.order c.loop-at.invariant.same c.requires

pub stands_ahead-requires : goal.stands_ahead-requires
stands_ahead-requires g c =
    let inside = All-permutation (λ i. i < length c.args.slots.now) c.args.order.now c.loop-at.order c.loop-at.invariant.same c.requires in
    (inside c.first_below-below.result 0 (omega arith), inside c.loop-at.at 0 (omega arith))

pub returns-then-not-stands_ahead-clause-heap : goal.returns-then-not-stands_ahead-clause-heap
returns-then-not-stands_ahead-clause-heap g c h =
    heap_at_rest (slot_order (map (λ s. option_map g.S.Item.AsEntry.shows s.head) c.args.slots.now)) (λ i. get_or c.loop-at.order i 0) (length c.loop-at.order) c.args.place c.loop-at.at c.first_below-below.result
    (sym c.stands_ahead.ensures ∙ c.if-not-stands_ahead.true) c.first_below-below.ensures.first (c.loop-at.invariant.heap h)

pub loop-at-preserved : goal.loop-at-preserved
loop-at-preserved g c =
    let i = c.loop-at.invariant in
    let l = c.loop-at.order in
    let m = c.swap.new.self in
    let at = c.loop-at.at in
    let below = c.first_below-below.result in
    let swapped = swapped_from_swap l m at below 0 (omega arith) (omega arith) c.swap.ensures.after in
    record {
      below = omega arith;
      same = IsPermutation-trans c.args.order.now l m i.same c.swap.ensures.permutation;
      above = λ p lt. swapped.2 p (omega arith) (omega arith) ∙ i.above p lt;
      heap = λ h. rw c.swap.ensures.len (heap_sunk (slot_order (map (λ s. option_map g.S.Item.AsEntry.shows s.head) c.args.slots.now)) (λ i. get_or l i 0) (λ i. get_or m i 0) (length l) c.args.place at below swapped (omega arith) (omega arith) (omega arith) (omega arith)
          (sym c.stands_ahead.ensures ∙ c.if-not-stands_ahead.false) c.first_below-below.ensures.first (i.heap h));
    }
