use Rattle.std.proofs.Common.{sym, subst, ◌∙◌, ap}
use Rattle.lsm_below.specs.Sorted.{Rises}
use Rattle.lsm_iter.specs.Shown.{by_key}
use Rattle.lsm_iter.specs.Reads.{at}
use Rattle.lsm_iter.specs.Left.{tops}
use Rattle.lsm_iter.proofs.Firsts.{tops_rise}
use Rattle.lsm_iter.proofs.cursor.CursorReader.of_span.Goals as goal

pub invariant_of-result : goal.invariant_of-result
invariant_of-result c =
    let part = at c.args.below c.args.span.now in
    subst (Rises by_key) (sym (c.in_ok-list.ensures.is ∙ ap (λ es. tops (at c.args.below es)) c.iter.ensures)) (tops_rise c.entries_are_ordered.ensures c.merges_by_key.ensures part c.facts.ensures)
