use Rattle.std.proofs.Common.{◌≢◌, [], set, sym, ◌∙◌, subst, arith}
use Rattle.lsm_iter.specs.Left.{left_of, shown_list}
use Rattle.lsm_iter.specs.Ends.{IsTaken}
use Rattle.lsm_iter.proofs.Steps.{IsTurn, on_err, none_shown, some_shown, turn}
use Rattle.lsm_iter.proofs.outermost.take_shown.Goals.{In_ok-entry}
use Rattle.lsm_iter.proofs.outermost.take_shown.Goals as goal

turned : (c : In_ok-entry) → IsTurn c.args.end c.loop-at.cursors (set c.outermost_at.new.readers c.in-Some.at c.take.new.self) c.in_ok-entry.field-0
turned c = turn c.args.end c.loop-at.cursors c.outermost_at.new.readers _ c.outermost_at.ensures.same c.outermost_at.ensures.outer c.in-Some.at c.in-Some.is c.index-cursors-at.result c.take.ensures.rises c.take.new.self c.in_ok-entry.field-0 c.in_ok-entry.ensures.takes c.take.ensures.held

pub returns-in_default-clause-takes : goal.returns-in_default-clause-takes
returns-in_default-clause-takes c =
    let none = none_shown c.args.end c.loop-at.cursors c.outermost_at.new.readers _ c.outermost_at.ensures.same c.outermost_at.ensures.outer c.in_default.is in
    (c.loop-at.invariant.shown ∙ none.0, none.1)

pub returns-in_err-entry-clause-err : goal.returns-in_err-entry-clause-err
returns-in_err-entry-clause-err c =
    let met = c.in_err-entry.ensures.err in
    let some = some_shown c.args.end c.loop-at.cursors c.outermost_at.new.readers _ c.outermost_at.ensures.same c.outermost_at.ensures.outer c.in-Some.at c.in-Some.is c.index-cursors-at.result c.take.ensures.rises met.0 met.1 met.2 in
    on_err c.from_residual.result (shown_list (left_of c.args.cursors.now) ≢ []) (λ none. some (sym c.loop-at.invariant.shown ∙ none))

pub returns-in-Some-2-clause-takes : goal.returns-in-Some-2-clause-takes
returns-in-Some-2-clause-takes c =
    let now = shown_list (left_of (set c.outermost_at.new.readers c.in-Some.at c.take.new.self)) in
    subst (λ l. IsTaken c.args.end l c.in-Some-2.entry now) (sym c.loop-at.invariant.shown) ((turned (goal.at.returns-in-Some-2-clause-takes c).In_ok-entry).taken c.in-Some-2.entry c.in-Some-2.is)

pub loop-at-smaller : goal.loop-at-smaller
loop-at-smaller c = (turned (goal.at.loop-at-smaller c).In_ok-entry).fewer

pub loop-at-preserved : goal.loop-at-preserved
loop-at-preserved c =
    let t = turned (goal.at.loop-at-preserved c).In_ok-entry in
    let held = t.held in
    let was = c.loop-at.invariant.held in
    record {
      shown = c.loop-at.invariant.shown ∙ t.kept c.in_default-2.is;
      held = omega arith;
    }
