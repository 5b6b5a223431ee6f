use Rattle.std.proofs.Common.{set, option_copied, sym, ap, ◌∙◌, subst}
use Rattle.lsm_iter.specs.Left.{left_of, shown_list}
use Rattle.lsm_iter.specs.Ends.{IsTaken}
use Rattle.lsm_iter.proofs.Steps.{IsTurn, none_shown, turn}
use Rattle.lsm_iter.proofs.lending.lend_shown.Goals.{After-take}
use Rattle.lsm_iter.proofs.lending.lend_shown.Goals as goal

turned : (c : After-take) → IsTurn c.args.end c.loop-at.lenders (set c.outermost_at.new.readers c.in-Some.at c.take.new.self) (option_copied c.take.result)
turned c = turn c.args.end c.loop-at.lenders c.outermost_at.new.readers _ c.outermost_at.ensures.same c.outermost_at.ensures.outer c.in-Some.at c.in-Some.is c.index-lenders-at.result c.take.ensures.rises c.take.new.self (option_copied c.take.result) c.take.ensures.takes c.take.ensures.held

pub returns-in_default : goal.returns-in_default
returns-in_default c =
    let none = none_shown c.args.end c.loop-at.lenders c.outermost_at.new.readers _ c.outermost_at.ensures.same c.outermost_at.ensures.outer c.in_default.is in
    (c.loop-at.invariant ∙ none.0, none.1)

pub returns-in-Some-take : goal.returns-in-Some-take
returns-in-Some-take c =
    let now = shown_list (left_of (set c.outermost_at.new.readers c.in-Some.at c.take.new.self)) in
    let e = c.in-Some-take.entry.now in
    subst (λ l. IsTaken c.args.end l e now) (sym c.loop-at.invariant) ((turned (goal.at.returns-in-Some-take c).After-take).taken e (ap option_copied c.in-Some-take.is))

pub loop-at-smaller : goal.loop-at-smaller
loop-at-smaller c = (turned (goal.at.loop-at-smaller c).After-take).fewer

pub loop-at-preserved : goal.loop-at-preserved
loop-at-preserved c = c.loop-at.invariant ∙ (turned (goal.at.loop-at-preserved c).After-take).kept (ap option_copied c.in_default-take.is)
