use Rattle.std.proofs.Common.{◌++◌, length, length-append, append-nil, sym, ◌∙◌, ap, arith}
use Rattle.std.specs.Vec.Iter.{into_iter_items}
use Rattle.std.proofs.lemmas.List.{nil_from_length}
use Rattle.lsm_memtable.proofs.Dealt.{dealt_at}
use Rattle.lsm_memtable.proofs.spread.spread.Goals as goal

pub returns-clause-items : goal.returns-clause-items
returns-clause-items g c =
    let lower = c.args.lower.now.items in
    let upper = c.args.upper.now.items in
    let front = c.deal_some.new.lower.items ++ c.deal_some.new.upper.items in
    let rest = into_iter_items c.deal_some.new.from in
    let all = c.deal_some-2.new.lower.items ++ c.deal_some-2.new.upper.items in
    let none = nil_from_length (into_iter_items c.deal_some-2.new.from) (omega (arith, c.deal_some-2.new.from.rest.ok.0, c.deal_some-2.ensures.left, c.deal_some.ensures.left)) in
    let first = ap (λ l. length l) c.requires.lower_empty in
    let second = ap (λ l. length l) c.requires.upper_empty in
    dealt_at front rest c.args.items.items all c.args.place c.args.item
    (c.deal_some.ensures.items ∙ (ap (λ l. (l ++ upper) ++ into_iter_items c.into_iter-from.result) c.requires.lower_empty ∙ (ap (λ l. l ++ into_iter_items c.into_iter-from.result) c.requires.upper_empty ∙ c.into_iter-from.ensures.rest)))
    (omega (arith, length-append c.deal_some.new.lower.items c.deal_some.new.upper.items, c.deal_some.ensures.len, first, second))
    (sym (append-nil all) ∙ (ap (λ l. all ++ l) (sym none) ∙ (c.deal_some-2.ensures.items ∙ ap (λ l. l ++ rest) c.deal.ensures.items)))
