use Rattle.std.proofs.Common.{◌≡◌, true, ap, sym, ◌∙◌, Err}
use Rattle.std.proofs.lemmas.List.Folds.{list_all_more}
use Rattle.lsm_recorded.specs.Marks.{mark_of, op_allowed}
use Rattle.lsm_recorded.proofs.BatchLemmas.{both_true, not_refused, not_refused_short}
use Rattle.lsm_recorded.proofs.marks.admit_all.Goals.{in-Ok, in-Err-OutOfMemory}
use Rattle.lsm_recorded.proofs.marks.admit_all.Goals as goal

pub loop-key-preserved : goal.loop-key-preserved
loop-key-preserved c =
    let ops = c.args.ops.now in
    let n = c.loop-key.key-index in
    let op = c.loop-key-item.result in
    let allows = op_allowed (mark_of c.args.marks.now) c.args.floor c.args.number in
    let allowed : allows op ≡ true = elim c.match-admit.branch [
      | in-Ok w ↦ not_refused _ _ w.in-Ok.is c.admit.ensures.out_of_order
      | in-Err-OutOfMemory w ↦ not_refused_short _ _ (w.in-Err-OutOfMemory.is ∙ ap Err w.in-Err-OutOfMemory.field-0-is) c.admit.ensures.out_of_order
    ] in
    list_all_more allows ops n op c.loop-key-test.true ∙ both_true _ _ c.loop-key.invariant (ap allows (sym c.loop-key-item.is) ∙ allowed)
