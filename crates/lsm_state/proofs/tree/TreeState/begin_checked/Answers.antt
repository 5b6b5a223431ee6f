use Rattle.std.proofs.Common.{◌≡◌, Result, Ok, Err, Option, None, sym, subst, ◌∙◌}
use Rattle.lsm_below.specs.declared.error.Error.{Error}
use Rattle.lsm_checks.specs.declared.choice.Why.{Why}
use Rattle.lsm_pick.specs.declared.choice.Choice.TheVariants.{DoNothing}
use Rattle.lsm_state.specs.Compactions.{BeginsChoice}
use Rattle.lsm_state.proofs.Choices.{refused_begins, no_option}
use Rattle.lsm_state.proofs.tree.TreeState.begin_checked.Goals as goal

differ : (e : Error) → ◌≡◌ {A = Result (Option Why) Error} (Err e) (Ok None) → ⊥
differ e h = cc h

pub returns-in-Err-clause-begins : goal.returns-in-Err-clause-begins
returns-in-Err-clause-begins g c =
    let core = c.args.self.now.core in
    let o = c.args.options in
    let something = λ (h : c.args.choice ≡ DoNothing). differ c.in-Err.error (sym c.in-Err.is ∙ c.reason_to_decline.ensures.nothing h) in
    subst (λ e. BeginsChoice c.args.choice o (Err e) core core) (sym c.in-Err.ensures.memory) (refused_begins c.args.choice o core (no_option core.lost (sym c.is_uncertain.ensures ∙ c.if-is_uncertain.false)) something)
