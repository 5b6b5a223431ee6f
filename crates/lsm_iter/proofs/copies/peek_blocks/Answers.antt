use Rattle.std.proofs.Common.{◌≡◌, ◌+◌, ◌-◌, ◌<◌, length, ◌∙◌, refl, sym, ap, arith}
use Rattle.lsm_iter.specs.Left.{end_item}
use Rattle.lsm_iter.specs.Joined.{joined}
use Rattle.lsm_iter.proofs.Joined.{back_peeked}
use Rattle.lsm_iter.proofs.copies.peek_blocks.Goals as goal

pub returns-in_ok-back-in-Back : goal.returns-in_ok-back-in-Back
returns-in_ok-back-in-Back c =
    let blocks = c.args.blocks.now in
    let block = c.in_ok-back-in-Back.field-0.now in
    let some : 0 < blocks.len = c.in_ok-back-in-Back.ensures.variant.0 refl in
    let one : blocks.len - 1 + 1 ≡ length blocks.items = omega (arith, blocks.ok.0) in
    c.peek-in-Back.ensures ∙ ap (λ end. end_item end block) c.in-Back.is
    ∙ sym (ap (λ end. end_item end (joined blocks.items)) c.in-Back.is ∙ back_peeked blocks.items (blocks.len - 1) block one c.in_ok-back-in-Back.ensures.lookup c.requires)
