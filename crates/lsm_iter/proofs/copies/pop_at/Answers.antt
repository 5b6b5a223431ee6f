use Rattle.std.proofs.Common.{arith, sym, ◌∙◌, ap}
use Rattle.lsm_iter.specs.Left.{end_item}
use Rattle.lsm_iter.proofs.Alone.{back_taken}
use Rattle.lsm_iter.proofs.copies.pop_at.Goals as goal

pub returns-in-Back-clause-is : goal.returns-in-Back-clause-is
returns-in-Back-clause-is c =
    let xs = c.args.list.now.items in
    back_taken xs c.pop_back.new.self.items c.pop_back.result c.pop_back.ensures.items (λ lt. c.pop_back.ensures.variant.1 (omega (arith, lt))) ∙ sym (ap (λ end. end_item end xs) c.in-Back.is)
