use Rattle.std.proofs.Common.{◌≡◌, ◌-◌, ◌+◌, arith, map, subst, ℕ, option_map}
use Rattle.lsm_below.specs.Slots.{all_of, IsQueue}
use Rattle.lsm_below.proofs.merger.settle.Goals as goal

pub settle_place-requires : goal.settle_place-requires
settle_place-requires g c =
    let l = c.loop-place in
    let one : l.place ≡ l.place - 1 + 1 = omega arith in
    subst (λ (n : ℕ). IsQueue (map (λ s. option_map g.S.Item.AsEntry.shows s.head) l.slots) (map (λ s. all_of (option_map g.S.Item.AsEntry.shows s.head) (g.S.Source.rest s.source).entries) l.slots) l.order.items n) one l.invariant.queue
