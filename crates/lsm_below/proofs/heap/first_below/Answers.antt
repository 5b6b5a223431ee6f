use Rattle.std.proofs.Common.{sym, ◌∙◌, arith, map, get_or, option_map}
use Rattle.lsm_below.proofs.Heaps.{slot_order, left_first, right_first}
use Rattle.lsm_below.proofs.heap.first_below.Goals as goal
use Rattle.lsm_below.proofs.heap.first_below.Goals.{else-right-order-via-then-right-order+else-stands_ahead, else-right-order-via-else-right-order}

pub returns-then-stands_ahead-clause-first : goal.returns-then-stands_ahead-clause-first
returns-then-stands_ahead-clause-first g c =
    right_first (slot_order (map (λ s. option_map g.S.Item.AsEntry.shows s.head) c.args.slots.now)) (λ i. get_or c.args.order.now i 0) _ c.args.place (sym c.stands_ahead.ensures ∙ c.if-stands_ahead.true)

pub returns-else-right-order-clause-first : goal.returns-else-right-order-clause-first
returns-else-right-order-clause-first g c = elim c.else-right-order.branch [
  | else-right-order-via-then-right-order+else-stands_ahead w ↦
      left_first (slot_order (map (λ s. option_map g.S.Item.AsEntry.shows s.head) c.args.slots.now)) (λ i. get_or c.args.order.now i 0) _ c.args.place (λ lt. sym w.stands_ahead.ensures ∙ w.if-stands_ahead.false)
  | else-right-order-via-else-right-order w ↦
      left_first (slot_order (map (λ s. option_map g.S.Item.AsEntry.shows s.head) c.args.slots.now)) (λ i. get_or c.args.order.now i 0) _ c.args.place (λ lt. absurd (omega arith))
]
