use Rattle.std.proofs.Common.{◌≡◌, ◌∙◌, refl, arith}
use Rattle.std.proofs.lemmas.Result.{err_from_is_err_and}
use Rattle.std.proofs.lemmas.Grind.{common_steps}
use Rattle.std.specs.BTreeMap.Entry.{map_with_value}
use Rattle.lsm_recorded.specs.Marks.{mark_of, marked_by}
use Rattle.lsm_recorded.proofs.MarksLemmas.{mark_found, mark_kept, mark_written}
use Rattle.lsm_recorded.proofs.WritesLemmas.{on_err, own_by, refused_told}
use Rattle.lsm_recorded.proofs.writes.append_at_mark.Goals as goal

pub returns-in_err-key-clause-out_of_order : goal.returns-in_err-key-clause-out_of_order
returns-in_err-key-clause-out_of_order g c =
    let p = err_from_is_err_and c.from_residual.result c.from_residual.ensures.1 in
    refused_told c.from_residual.result p.0 _ _ p.1 (p.2 ∙ c.in_err-key.ensures.err) refl

pub returns-in_err-key-clause-core : goal.returns-in_err-key-clause-core
returns-in_err-key-clause-core g c =
    let p = err_from_is_err_and c.from_residual.result c.from_residual.ensures.1 in
    own_by c.from_residual.result p.0 _ _ p.1 (p.2 ∙ c.in_err-key.ensures.err)

pub returns-then-not-is_allowed-clause-unmarked : goal.returns-then-not-is_allowed-clause-unmarked
returns-then-not-is_allowed-clause-unmarked g c q =
    let same : mark_of (map_with_value c.in_ok-marks.field-0 c.or_insert-mark.result.now) q ≡ mark_of c.args.marks.now q =
    mark_kept c.args.marks.now (map_with_value c.in_ok-marks.field-0 c.or_insert-mark.result.now) c.in_ok-key.key c.or_insert-mark.result.now _ c.or_insert-mark.ensures.value c.in_ok-marks.ensures.value (c.in_ok-marks.ensures.update.0 c.or_insert-mark.result.now).0 q in
    grind (arith, common_steps, same)

pub returns-in_err-sizes-clause-unmarked : goal.returns-in_err-sizes-clause-unmarked
returns-in_err-sizes-clause-unmarked g c = on_err c.from_residual-in_err-sizes.result (λ q.
    let same : mark_of (map_with_value c.in_ok-marks.field-0 c.or_insert-mark.result.now) q ≡ mark_of c.args.marks.now q =
    mark_kept c.args.marks.now (map_with_value c.in_ok-marks.field-0 c.or_insert-mark.result.now) c.in_ok-key.key c.or_insert-mark.result.now _ c.or_insert-mark.ensures.value c.in_ok-marks.ensures.value (c.in_ok-marks.ensures.update.0 c.or_insert-mark.result.now).0 q in
    grind (arith, common_steps, same))

pub returns-clause-marks : goal.returns-clause-marks
returns-clause-marks g c q =
    let m = c.or_insert-mark.result.now in
    let found = mark_found c.args.marks.now c.in_ok-key.key m _ c.or_insert-mark.ensures.value c.in_ok-marks.ensures.value in
    let w = c.mark_after.result in
    let entry = c.args.entry in
    let written : mark_of (map_with_value c.in_ok-marks.field-0 w) q ≡ marked_by entry (mark_of c.args.marks.now) q =
    mark_written c.args.marks.now (map_with_value c.in_ok-marks.field-0 w) c.in_ok-key.key entry.key.user_key m w entry.key.seqno entry.key.value_type c.in_ok-key.ensures.ok found c.mark_after.ensures (c.in_ok-marks.ensures.update.0 w).0 q in
    grind (arith, common_steps, written)
