use Rattle.std.proofs.Common.{◌∙◌, sym}
use Rattle.lsm_checks.proofs.Choosing.{allowed_first, movable_first, there_first}
use Rattle.lsm_checks.proofs.choice.first_reason.Goals as goal

pub returns-clause-value : goal.returns-clause-value
returns-clause-value c =
    rw (c.first_that_holds-first.ensures, c.should_decline_compaction.ensures, c.in_ok-any_missing.ensures.value, c.has_no_level.ensures, c.in_ok-overlap_in_move.ensures, c.gap_in_merge.ensures, c.in_ok-faults.ensures.order, c.in_ok-faults.ensures.eviction, c.levels-levels.ensures)

pub returns-clause-allowed : goal.returns-clause-allowed
returns-clause-allowed c = λ none merges. allowed_first c.args.kind c.args.ids.now.keys c.args.to c.args.hidden.now c.args.version.now.levels c.facts.ensures.is.seven (sym (returns-clause-value c) ∙ none) merges

pub returns-clause-movable : goal.returns-clause-movable
returns-clause-movable c = λ none moves. movable_first c.args.kind c.args.ids.now.keys c.args.to c.args.hidden.now c.args.version.now.levels c.facts.ensures.is.seven (sym (returns-clause-value c) ∙ none) moves

pub returns-clause-there : goal.returns-clause-there
returns-clause-there c = λ none. there_first c.args.kind c.args.ids.now.keys c.args.to c.args.hidden.now c.args.version.now.levels (sym (returns-clause-value c) ∙ none)
