use Rattle.std.proofs.Common.{sym, subst}
use Rattle.lsm_model.specs.declared.question.Question.TheVariants.{Prefix}
use Rattle.lsm_state.specs.Ranges.{IsListStep}
use Rattle.lsm_recorded.proofs.recorded.Recorded.prefix.Goals as goal

pub note_listed-requires : goal.note_listed-requires
note_listed-requires g c =
    let core = c.args.self.now.tree.core in
    let s = c.args.snapshot in
    let list = c.in_ok-list.list in
    record {
      step = subst (λ p. IsListStep core (Prefix p) s list) (sym c.in_ok-share.ensures) (subst (λ l. IsListStep core (Prefix c.args.prefix.now) s l) (sym c.in_ok-list.ensures) c.in_ok-pairs.ensures.step);
      above = c.in_ok-pairs.ensures.not_below;
    }
