use Rattle.std.proofs.Common.{◌≡◌, ◌-◌, true, length, take, drop, sym, ap, ◌∙◌}
use Rattle.lsm_model.specs.Steps.{among}
use Rattle.lsm_checks.specs.Choices.{has_gap}
use Rattle.lsm_checks.proofs.Resuming.{at_chosen, first_and_rest}
use Rattle.lsm_checks.proofs.gaps.run_has_gap.Goals as goal

pub returns-then-has_id : goal.returns-then-has_id
returns-then-has_id c =
    let ids = c.args.ids.now.keys in
    let rest = c.loop-rest.rest.now in
    let t = c.table-item.result in
    let yes : among ids t.id ≡ true = ap (among ids) (sym c.id.ensures) ∙ sym c.has_id.ensures ∙ c.if-has_id.true in
    c.run_resumes.ensures ∙ sym (at_chosen ids t (take (length rest - 1) (drop 1 rest)) yes) ∙ ap (has_gap ids) (first_and_rest rest t c.in-len1-up.len_at_least c.table-item.is) ∙ sym c.loop-rest.invariant
