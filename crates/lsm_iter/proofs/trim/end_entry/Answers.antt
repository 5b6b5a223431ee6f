use Rattle.std.proofs.Common.{sym, ◌∙◌, ap}
use Rattle.lsm_iter.specs.Left.{end_item}
use Rattle.lsm_iter.proofs.Tops.{last_is}
use Rattle.lsm_iter.proofs.trim.end_entry.Goals as goal

pub returns-in-Some-split_last : goal.returns-in-Some-split_last
returns-in-Some-split_last c =
    sym (ap (λ end. end_item end c.args.entries.now) c.in-Back.is ∙ last_is c.args.entries.now c.in-Some-split_last.field-0-1.now c.in-Some-split_last.last.now c.in-Some-split_last.ensures.cases.0)
