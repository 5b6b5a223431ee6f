use Rattle.std.proofs.Common.{sym, ◌∙◌, ap}
use Rattle.lsm_iter.specs.Left.{end_item}
use Rattle.lsm_iter.specs.declared.tree_iter.End.TheVariants.{Back}
use Rattle.lsm_iter.proofs.Walks.{back_is}
use Rattle.lsm_iter.proofs.walk.Walk.peek.Goals as goal

pub returns-in-Back : goal.returns-in-Back
returns-in-Back c =
    c.entry_of-in-Back.ensures ∙ back_is c.self.inside.rest c.last_headed.result c.last_headed.ensures
    ∙ sym (c.self.invariant.trimmed Back) ∙ ap (end_item Back) c.self.view_is ∙ sym (ap (λ end. end_item end c.args.self.now) c.in-Back.is)
