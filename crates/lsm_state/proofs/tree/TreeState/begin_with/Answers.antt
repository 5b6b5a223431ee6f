use Rattle.std.proofs.Common.{sym, ◌∙◌}
use Rattle.lsm_state.proofs.Choices.{begins_chosen, no_option}
use Rattle.lsm_state.proofs.tree.TreeState.begin_with.Goals as goal

pub returns-clause-begins : goal.returns-clause-begins
returns-clause-begins g c =
    let did = c.begin_answer.ensures in
    let chosen = c.choose_with-chosen in
    begins_chosen (g.C.CompactionStrategy.may_choose c.args.strategy.now) (g.C.CompactionStrategy.may_refuse c.args.strategy.now) c.args.options chosen.result c.begin_answer.result c.args.self.now.core c.begin_answer.new.self.core (no_option c.args.self.now.core.lost (sym c.is_uncertain.ensures ∙ c.if-is_uncertain.false)) chosen.ensures.chosen chosen.ensures.refused did.ok did.refused did.same
