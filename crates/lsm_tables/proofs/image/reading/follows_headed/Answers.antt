use Rattle.std.proofs.Common.{◌<◌, length, sym, ap, ◌∙◌, arith}
use Rattle.std.proofs.lemmas.Bool.Decides.{nat_tests}
use Rattle.lsm_below.specs.Slots.{is_before}
use Rattle.lsm_tables.proofs.Adjacent.{follows_at}
use Rattle.lsm_tables.proofs.image.reading.follows_headed.Goals as goal

pub returns : goal.returns
returns c =
    let es = c.args.entries.now in
    let last = c.at.result in
    let some : 0 < length es = grind (arith, nat_tests, c.if-is_empty.false) in
    c.stands_before.ensures ∙ ap (λ e. is_before e c.args.next.now) (c.at.ensures last) ∙ sym (follows_at es c.args.next.now last some)
