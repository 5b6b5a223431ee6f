use Rattle.std.proofs.Common.{◌≡◌, ℕ, ap, sym, ◌∙◌, arith, length, map, subst, None, List, option_map}
use Rattle.std.proofs.lemmas.List.{length-map}
use Rattle.std.proofs.lemmas.List.Elements.{All-map, recursion_from_All}
use Rattle.std.specs.List.{range_with_len}
use Rattle.std.specs.List.Sorted.{IsPermutation}
use Rattle.lsm_below.specs.declared.value.InternalValue.{InternalValue}
use Rattle.lsm_below.specs.Streams.{Merges, IsInOrder}
use Rattle.lsm_below.specs.Slots.{all_of, merged}
use Rattle.lsm_below.proofs.Merging.{merges_merged}
use Rattle.lsm_below.proofs.Taking.{map_twice}
use Rattle.lsm_below.proofs.Bridge.{sources_merge, sources_follow}
use Rattle.lsm_below.proofs.Queues.{queue_unasked}
use Rattle.lsm_below.proofs.merger.Merger.new.Goals as goal

pub returns-clause-merges : goal.returns-clause-merges
returns-clause-merges g c =
    let sources = c.args.sources.items in
    let lists = map (λ s. (g.S.Source.rest s).entries) sources in
    let same = ap (map (λ s. all_of (option_map g.S.Item.AsEntry.shows s.head) (g.S.Source.rest s.source).entries)) c.in_ok-slots.ensures ∙ map_twice (λ s. all_of (option_map g.S.Item.AsEntry.shows s.head) (g.S.Source.rest s.source).entries) (λ s. record { head = None; source = s }) sources in
    subst (λ (ls : List (List InternalValue)). Merges lists (merged ls)) (sym same) (merges_merged lists (recursion_from_All IsInOrder lists (All-map IsInOrder (λ s. (g.S.Source.rest s).entries) sources c.requires)))

pub returns-clause-by_key : goal.returns-clause-by_key
returns-clause-by_key g c =
    let sources = c.args.sources.items in
    let lists = map (λ s. (g.S.Source.rest s).entries) sources in
    let same = ap (map (λ s. all_of (option_map g.S.Item.AsEntry.shows s.head) (g.S.Source.rest s.source).entries)) c.in_ok-slots.ensures ∙ map_twice (λ s. all_of (option_map g.S.Item.AsEntry.shows s.head) (g.S.Source.rest s.source).entries) (λ s. record { head = None; source = s }) sources in
    sources_merge (λ s. (g.S.Source.rest s).entries) sources (map (λ s. all_of (option_map g.S.Item.AsEntry.shows s.head) (g.S.Source.rest s.source).entries) c.in_ok-slots.slots.items) same (recursion_from_All IsInOrder lists (All-map IsInOrder (λ s. (g.S.Source.rest s).entries) sources c.requires))

pub returns-clause-in_turn : goal.returns-clause-in_turn
returns-clause-in_turn g c =
    let sources = c.args.sources.items in
    let lists = map (λ s. (g.S.Source.rest s).entries) sources in
    let same = ap (map (λ s. all_of (option_map g.S.Item.AsEntry.shows s.head) (g.S.Source.rest s.source).entries)) c.in_ok-slots.ensures ∙ map_twice (λ s. all_of (option_map g.S.Item.AsEntry.shows s.head) (g.S.Source.rest s.source).entries) (λ s. record { head = None; source = s }) sources in
    sources_follow (λ s. (g.S.Source.rest s).entries) sources (map (λ s. all_of (option_map g.S.Item.AsEntry.shows s.head) (g.S.Source.rest s.source).entries) c.in_ok-slots.slots.items) same (recursion_from_All IsInOrder lists (All-map IsInOrder (λ s. (g.S.Source.rest s).entries) sources c.requires))

pub invariant_of-result : goal.invariant_of-result
invariant_of-result g c =
    let slots = c.in_ok-slots.slots.items in
    let order = c.in_ok-order.order.items in
    let long : c.len-waiting.result ≡ length order = omega arith in
    let each : length slots ≡ length c.args.sources.items = ap length c.in_ok-slots.ensures ∙ length-map _ _ in
    let many : c.len.result ≡ length (map (λ s. option_map g.S.Item.AsEntry.shows s.head) slots) = omega (arith, length-map slots (λ s. option_map g.S.Item.AsEntry.shows s.head), each) in
    (λ _. rw long (queue_unasked (map (λ s. option_map g.S.Item.AsEntry.shows s.head) slots) (map (λ s. all_of (option_map g.S.Item.AsEntry.shows s.head) (g.S.Source.rest s.source).entries) slots) order (subst (λ (n : ℕ). IsPermutation (range_with_len 0 n) order) many c.in_ok-order.ensures)), tt)
