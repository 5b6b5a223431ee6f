use Rattle.std.proofs.Common.{List, [], sym, ap, ◌∙◌, subst}
use Rattle.lsm_tables.specs.Tables.{SeenTable}
use Rattle.lsm_pick.specs.Tables.{AddsIds}
use Rattle.lsm_pick.specs.Fifo.{fresh, surplus}
use Rattle.lsm_pick.proofs.IdSets.{adds_none}
use Rattle.lsm_pick.proofs.FreshSteps.{none_over}
use Rattle.lsm_pick.proofs.fifo.Fifo.push_over.Goals as goal

pub returns-then-over-eq0 : goal.returns-then-over-eq0
returns-then-over-eq0 c =
    let fs = fresh c.args.self.now c.args.run.now in
    let ids = c.args.ids.now.keys in
    subst (λ (ts : List SeenTable). AddsIds ts ids ids)
    (sym (ap (λ n. surplus n [] fs) (sym c.overshoot-over.ensures ∙ c.if-over-eq0.true) ∙ none_over [] fs)) (adds_none ids)
