use Rattle.std.proofs.Common.{◌≡◌, ◌-◌, false, length, take, drop, sym, ap, ◌∙◌}
use Rattle.lsm_model.specs.Steps.{among}
use Rattle.lsm_checks.specs.Choices.{resumes}
use Rattle.lsm_checks.proofs.Resuming.{at_unchosen, first_and_rest}
use Rattle.lsm_checks.proofs.gaps.run_resumes.Goals as goal

pub returns-then-not-has_id : goal.returns-then-not-has_id
returns-then-not-has_id c =
    let ids = c.args.ids.now.keys in
    let rest = c.loop-rest.rest.now in
    let t = c.table-item.result in
    let no : among ids t.id ≡ false = ap (among ids) (sym c.id.ensures) ∙ sym c.has_id.ensures ∙ c.if-not-has_id.true in
    c.run_has.ensures ∙ sym (at_unchosen ids t (take (length rest - 1) (drop 1 rest)) no) ∙ ap (resumes ids) (first_and_rest rest t c.in-len1-up.len_at_least c.table-item.is) ∙ sym c.loop-rest.invariant
