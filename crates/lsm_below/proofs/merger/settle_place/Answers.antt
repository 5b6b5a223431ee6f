use Rattle.std.proofs.Common.{◌≡◌, ◌<◌, ◌-◌, ◌∙◌, sym, ap, map, length, get_or, set, drop, [], ◌∷◌, IsPermutation, All, arith, option_map}
use Rattle.std.proofs.Math.Seq.{map-set_same}
use Rattle.std.proofs.lemmas.Grind.{get_or_default_zero}
use Rattle.std.proofs.lemmas.List.{get_or-map, map-set, length-map, length-set}
use Rattle.std.proofs.lemmas.List.Sorted.{IsPermutation-swap_remove}
use Rattle.lsm_below.specs.Slots.{all_of}
use Rattle.lsm_below.proofs.Showing.{some_shown, to_shown}
use Rattle.lsm_below.proofs.Queues.{IsAsked, below_left, asked_found, asked_ended, nothing_left_in, queue_sunk, written_back}
use Rattle.lsm_below.proofs.merger.settle_place.Goals as goal
use Rattle.lsm_below.proofs.merger.settle_place.Goals.{then-not-found, else-not-found}

pub sink-requires : goal.sink-requires
sink-requires g c =
    let slots = c.args.slots.now in
    let order = c.args.order.now.items in
    let fits : c.args.place < length order = omega arith in
    let inside : All (λ i. i < length slots) order = λ k d lt. omega (arith, c.requires.0.1 k d lt, length-map slots (λ s. option_map g.S.Item.AsEntry.shows s.head)) in
    let left : All (λ i. i < length slots) c.if-not-found.order.items = elim c.if-not-found.branch [
      | then-not-found w ↦
          let gone = w.swap_remove.ensures in
          let same : IsPermutation order (w.swap_remove.result ∷ w.swap_remove.new.self.items) = rw gone.items (IsPermutation-swap_remove order c.args.place w.swap_remove.result fits gone.value) in
          rw w.order-is (below_left (length slots) w.swap_remove.result order w.swap_remove.new.self.items same inside)
      | else-not-found w ↦ rw w.order-is inside
    ] in
    rw (c.deref_mut.ensures.value, length-set slots c.index-index.result.now c.fill_slot.new.slot) left

pub returns-clause-same : goal.returns-clause-same
returns-clause-same g c =
    map-set_same (λ s. all_of (option_map g.S.Item.AsEntry.shows s.head) (g.S.Source.rest s.source).entries) c.args.slots.now c.index-index.result.now c.fill_slot.new.slot c.index-slots-index.result c.in_ok-found.ensures.same

pub returns-clause-queue : goal.returns-clause-queue
returns-clause-queue g c =
    let slots = c.args.slots.now in
    let order = c.args.order.now.items in
    let slot = c.fill_slot.new.slot in
    let i = c.index-index.result.now in
    let fits : c.args.place < length order = omega arith in
    let at_order : get_or order c.args.place 0 ≡ i = sym (c.index-index.ensures ∙ get_or_default_zero order c.args.place i fits) in
    let same = map-set_same (λ s. all_of (option_map g.S.Item.AsEntry.shows s.head) (g.S.Source.rest s.source).entries) slots i slot c.index-slots-index.result c.in_ok-found.ensures.same in
    let heads = map-set (λ s. option_map g.S.Item.AsEntry.shows s.head) slots i slot in
    let lists = map (λ s. all_of (option_map g.S.Item.AsEntry.shows s.head) (g.S.Source.rest s.source).entries) slots in
    let inside : i < length slots = omega (arith, at_order, c.requires.0.1 c.args.place 0 fits, length-map slots (λ s. option_map g.S.Item.AsEntry.shows s.head)) in
    let at_list : get_or lists (get_or order c.args.place 0) [] ≡ all_of (option_map g.S.Item.AsEntry.shows slot.head) (g.S.Source.rest slot.source).entries =
    ap (λ n. get_or lists n []) at_order ∙ get_or-map (λ s. all_of (option_map g.S.Item.AsEntry.shows s.head) (g.S.Source.rest s.source).entries) slots i c.index-slots-index.result [] inside ∙ sym c.in_ok-found.ensures.same in
    let asked : IsAsked (set (map (λ s. option_map g.S.Item.AsEntry.shows s.head) slots) (get_or order c.args.place 0) (option_map g.S.Item.AsEntry.shows slot.head)) lists c.if-not-found.order.items c.args.place = elim c.if-not-found.branch [
      | then-not-found w ↦
          let left = w.swap_remove.ensures in
          let one : get_or order c.args.place 0 ≡ w.swap_remove.result = sym (left.value ∙ get_or_default_zero order c.args.place w.swap_remove.result fits) in
          let long : c.args.order.now.len ≡ length order = omega arith in
          let same : IsPermutation order (get_or order c.args.place 0 ∷ w.swap_remove.new.self.items) = rw (one, left.items) (IsPermutation-swap_remove order c.args.place w.swap_remove.result fits left.value) in
          rw w.order-is (asked_ended (map (λ s. option_map g.S.Item.AsEntry.shows s.head) slots) lists order w.swap_remove.new.self.items c.args.place (option_map g.S.Item.AsEntry.shows slot.head) c.requires
          (ap length at_list ∙ nothing_left_in (option_map g.S.Item.AsEntry.shows slot.head) (g.S.Source.rest slot.source).entries (some_shown g.S.Item.AsEntry.shows slot.head ∙ c.in_ok-found.ensures.found ∙ w.if-not-found.true) (to_shown g.S.Item.AsEntry.shows _ (λ _. Unit {0}) slot.head c.in_ok-found.ensures.filled))
          same (omega arith) (λ lt. left.by_index.0 0 (omega arith) ∙ ap (λ n. get_or order (n - 1) 0) long) (λ k d lt. left.by_index.1 k 0 d (omega arith)))
      | else-not-found w ↦ rw w.order-is (asked_found (map (λ s. option_map g.S.Item.AsEntry.shows s.head) slots) lists order c.args.place (option_map g.S.Item.AsEntry.shows slot.head) c.requires (some_shown g.S.Item.AsEntry.shows slot.head ∙ c.in_ok-found.ensures.found ∙ w.if-not-found.false))
    ] in
    let back = written_back c.if-not-found.order.len c.sink.new.order (drop (length c.sink.new.order) c.if-not-found.order.items) (omega arith) in
    rw (back, same, heads, ← at_order) (queue_sunk (set (map (λ s. option_map g.S.Item.AsEntry.shows s.head) slots) (get_or order c.args.place 0) (option_map g.S.Item.AsEntry.shows slot.head)) lists c.deref_mut.result.now c.sink.new.order c.args.place
    (rw c.deref_mut.ensures.value asked) c.sink.ensures.same c.sink.ensures.above (rw (heads, ← at_order) at c.sink.ensures.heap))
