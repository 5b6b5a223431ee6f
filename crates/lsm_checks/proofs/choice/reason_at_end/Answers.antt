use Rattle.std.proofs.Common.{◌≡◌, ◌∙◌, sym, not}
use Rattle.lsm_checks.specs.Choices.{IsLastReason, last_reason_of}
use Rattle.lsm_checks.proofs.Chosen.{hold_same}
use Rattle.lsm_checks.proofs.Choosing.{allowed_last, level_last, stands_last, stale_shown}
use Rattle.lsm_checks.proofs.choice.reason_at_end.Goals as goal

pub returns : goal.returns
returns c =
    let levels = c.args.version.now.levels in
    let inputs = c.args.inputs.now in
    let ids = c.args.ids.now.keys in
    let to = c.args.to in
    let is : c.first_that_holds-first.result ≡ last_reason_of (not c.args.stands) ids to levels = rw (c.first_that_holds-first.ensures, c.in_ok-faults.ensures.order, c.in_ok-faults.ensures.eviction, c.levels.ensures) in
    let reason : IsLastReason inputs ids to levels c.first_that_holds-first.result = (not c.args.stands, stale_shown c.args.stands inputs levels c.requires, is) in
    record {
      reason = reason;
      allowed = λ none. allowed_last (not c.args.stands) ids to levels c.facts.ensures.is.seven (sym is ∙ none);
      level = λ none. level_last (not c.args.stands) ids to levels (sym is ∙ none);
      stands = λ none. stands_last inputs ids to levels _ reason none;
      same = λ none are own. hold_same ids inputs levels are own c.facts.ensures.is.own_ids (stands_last inputs ids to levels _ reason none);
    }
