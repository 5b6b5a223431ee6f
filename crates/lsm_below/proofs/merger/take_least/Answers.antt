use Rattle.std.proofs.Common.{◌≡◌, ◌<◌, ap, sym, ◌∙◌, length, get_or, [], ◌∷◌, Option, Some, None, OnSome, map, arith, option_map}
use Rattle.std.proofs.lemmas.Bool.{eqb-false, eqb-true}
use Rattle.std.proofs.lemmas.List.{map-set, get_or-set_other}
use Rattle.lsm_below.specs.Slots.{all_of}
use Rattle.lsm_below.proofs.Taking.{head_taken, taken}
use Rattle.lsm_below.proofs.Queues.{none_left, top_is_first, head_is_first, queue_taken}
use Rattle.lsm_below.proofs.merger.take_least.Goals as goal

pub returns-then-is_empty-clause-least : goal.returns-then-is_empty-clause-least
returns-then-is_empty-clause-least g c =
    let none : length c.args.order.now ≡ 0 = eqb-true (length c.args.order.now) 0 (sym c.is_empty.ensures ∙ c.if-is_empty.true) in
    none_left (λ s. option_map g.S.Item.AsEntry.shows s.head) (λ s. (g.S.Source.rest s.source).entries) c.args.slots.now c.args.order.now c.requires none

pub returns-clause-least : goal.returns-clause-least
returns-clause-least g c =
    let slots = c.args.slots.now in
    let order = c.args.order.now in
    let d = c.index-slots-order.result in
    let i = get_or order 0 0 in
    let some : 0 < length order = omega (arith, eqb-false (length order) 0 (sym c.is_empty.ensures ∙ c.if-is_empty.false)) in
    taken (λ s. all_of (option_map g.S.Item.AsEntry.shows s.head) (g.S.Source.rest s.source).entries) (λ s. option_map g.S.Item.AsEntry.shows s.head) slots i d _
    (λ k lt. head_is_first (λ s. option_map g.S.Item.AsEntry.shows s.head) (λ s. (g.S.Source.rest s.source).entries) slots order c.requires k d lt)
    (top_is_first (λ s. option_map g.S.Item.AsEntry.shows s.head) (λ s. (g.S.Source.rest s.source).entries) slots order c.requires some)
    g.S.Item.AsEntry.shows c.take.result (ap (option_map g.S.Item.AsEntry.shows) c.take.ensures.value)
    (λ e is. head_taken (option_map g.S.Item.AsEntry.shows (get_or slots i d).head) (g.S.Source.rest (get_or slots i d).source).entries e is ∙ ap (λ o. e ∷ all_of (option_map g.S.Item.AsEntry.shows o) (g.S.Source.rest (get_or slots i d).source).entries) (sym c.take.ensures.after))

on_some : {X P : Type 0} (r : Option X) → P → OnSome r P
on_some None p = tt
on_some (Some x) p = p

pub returns-clause-queue : goal.returns-clause-queue
returns-clause-queue g c =
    let slots = c.args.slots.now in
    let order = c.args.order.now in
    let i = get_or order 0 0 in
    let some : 0 < length order = omega (arith, eqb-false (length order) 0 (sym c.is_empty.ensures ∙ c.if-is_empty.false)) in
    let slot = record (get_or slots i c.index-slots-order.result) { head = c.take.new.self } in
    let heads = map-set (λ s. option_map g.S.Item.AsEntry.shows s.head) slots i slot in
    let lists = map-set (λ s. all_of (option_map g.S.Item.AsEntry.shows s.head) (g.S.Source.rest s.source).entries) slots i slot in
    on_some c.take.result (rw (heads, lists, c.take.ensures.after) (queue_taken (map (λ s. option_map g.S.Item.AsEntry.shows s.head) slots) (map (λ s. all_of (option_map g.S.Item.AsEntry.shows s.head) (g.S.Source.rest s.source).entries) slots) _ order some c.requires
    (λ j d. get_or-set_other (map (λ s. all_of (option_map g.S.Item.AsEntry.shows s.head) (g.S.Source.rest s.source).entries) slots) i j _ [] d)))
