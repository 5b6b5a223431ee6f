use Rattle.std.proofs.Common.{sym, subst}
use Rattle.lsm_model.specs.declared.question.Question.TheVariants.{Between}
use Rattle.lsm_state.specs.Ranges.{IsListStep}
use Rattle.lsm_recorded.proofs.recorded.Recorded.range.Goals as goal

pub note_listed-requires : goal.note_listed-requires
note_listed-requires g c =
    let core = c.args.self.now.tree.core in
    let s = c.args.snapshot in
    let list = c.in_ok-list.list in
    let asked = Between c.args.bounds.now.0 c.args.bounds.now.1 in
    let step = subst (λ l. IsListStep core asked s l) (sym c.in_ok-list.ensures) c.in_ok-pairs.ensures.step in
    record {
      step = subst (λ q. IsListStep core q s list) (sym c.in_ok-question.ensures) step;
      above = c.in_ok-pairs.ensures.not_below;
    }
