use Rattle.std.proofs.Common.{rules, arith, sym, ◌∙◌, ap}
use Rattle.lsm_iter.specs.Left.{end_item}
use Rattle.lsm_iter.proofs.Alone.{back_read}
use Rattle.lsm_iter.proofs.copies.item_at.Goals as goal

pub returns-in-Back : goal.returns-in-Back
returns-in-Back c =
    let xs = c.args.list.now.items in
    back_read xs c.back.result (λ lt. c.back.ensures.variant.1 (omega (arith, lt))) (search (rules, arith)) ∙ sym (ap (λ end. end_item end xs) c.in-Back.is)
