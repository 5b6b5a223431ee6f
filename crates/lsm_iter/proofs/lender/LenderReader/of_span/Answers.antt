use Rattle.std.proofs.Common.{sym, ap, subst, ◌∙◌}
use Rattle.std.specs.List.{All}
use Rattle.lsm_below.specs.Entries.{HasBytes}
use Rattle.lsm_iter.specs.Reads.{at}
use Rattle.lsm_iter.specs.Left.{tops}
use Rattle.lsm_iter.proofs.Firsts.{tops_all}
use Rattle.lsm_iter.proofs.lender.LenderReader.of_span.Goals as goal

pub returns-clause-bytes : goal.returns-clause-bytes
returns-clause-bytes c =
    let span = c.args.span.now in
    subst (All HasBytes) (sym (c.new-entries.ensures ∙ ap (λ es. tops (at c.args.below es)) c.iter.ensures)) (tops_all HasBytes c.args.below span c.keys_hold_bytes.ensures)
