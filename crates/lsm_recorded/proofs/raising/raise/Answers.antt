use Rattle.std.proofs.Common.{◌≡◌, ap, ◌∙◌, arith}
use Rattle.std.proofs.lemmas.Grind.{common_steps}
use Rattle.std.specs.BTreeMap.Entry.{map_with_value}
use Rattle.lsm_recorded.specs.Marks.{mark_of, marked, next_mark, op_type}
use Rattle.lsm_recorded.proofs.MarksLemmas.{mark_found, mark_kept, mark_written}
use Rattle.lsm_recorded.proofs.raising.raise.Goals as goal

pub returns-then-not-is_allowed-clause-unmarked : goal.returns-then-not-is_allowed-clause-unmarked
returns-then-not-is_allowed-clause-unmarked c refused q =
    let e = c.in_ok-marks.ensures in
    let m = c.or_insert-mark.result.now in
    let k = c.new-own.result in
    let same : mark_of (map_with_value c.in_ok-marks.field-0 m) q ≡ mark_of c.args.marks.now q =
    mark_kept c.args.marks.now (map_with_value c.in_ok-marks.field-0 m) k m _ c.or_insert-mark.ensures.value e.value (e.update.0 m).0 q in
    grind (arith, common_steps, same)

pub returns-clause-marks : goal.returns-clause-marks
returns-clause-marks c is q =
    let e = c.in_ok-marks.ensures in
    let m = c.or_insert-mark.result.now in
    let k = c.new-own.result in
    let n = c.args.number in
    let op = c.args.op.now in
    let found = mark_found c.args.marks.now k m _ c.or_insert-mark.ensures.value e.value in
    let w = c.mark_after.result in
    let after = c.mark_after.ensures ∙ ap (next_mark m n) c.type_of-kind.ensures in
    let at = c.new-own.ensures ∙ c.in_ok-share.ensures in
    let key = c.args.key.now in
    let old = c.args.marks.now in
    let written : mark_of (map_with_value c.in_ok-marks.field-0 w) q ≡ marked (mark_of old) key (next_mark (mark_of old key) n (op_type op)) q = mark_written old (map_with_value c.in_ok-marks.field-0 w) k key m w n (op_type op) at found after (e.update.0 w).0 q in
    grind (arith, common_steps, written)
