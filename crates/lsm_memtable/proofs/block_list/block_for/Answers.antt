use Rattle.std.proofs.Common.{length, get_or, ap, true, false, ◌∙◌, ◌+◌, ◌-◌, ◌/◌, arith}
use Rattle.lsm_memtable.proofs.Places.{ahead_to, at_last}
use Rattle.lsm_memtable.proofs.Paid.{paid_step}
use Rattle.lsm_memtable.proofs.block_list.block_for.Goals as goal

pub loop-low-preserved-then-is_last_ahead : goal.loop-low-preserved-then-is_last_ahead
loop-low-preserved-then-is_last_ahead c =
    let i = c.loop-low.invariant in
    let t = c.loop-low-test.true in
    let mid = c.loop-low.low + (c.loop-low.high - c.loop-low.low) / 2 in
    let bs = c.args.blocks.now.items in
    let read = c.at.ensures ∙ ap (λ l. get_or l mid c.at.result.now) c.all-all.ensures in
    let last = at_last bs mid c.at.result.now (omega arith) read c.args.key.now c.args.number c.is_last_ahead.result true c.is_last_ahead.ensures.is c.if-is_last_ahead.true in (
      omega arith,
      i.1,
      ahead_to c.entries_are_parted.ensures bs c.requires.blocks c.args.key.now c.args.number mid (omega arith) last,
      i.3,
      paid_step (c.loop-low.high - c.loop-low.low) (c.loop-low.high - (mid + 1)) (length bs) c.args.steps.now.compared c.loop-low.steps.compared c.is_last_ahead.new.steps.compared i.4 (omega arith) (omega arith) (omega (arith, c.is_last_ahead.ensures.compared)),
      c.is_last_ahead.ensures.moved ∙ i.5,
    )

pub loop-low-preserved : goal.loop-low-preserved
loop-low-preserved c =
    let i = c.loop-low.invariant in
    let t = c.loop-low-test.true in
    let mid = c.loop-low.low + (c.loop-low.high - c.loop-low.low) / 2 in
    let bs = c.args.blocks.now.items in
    let read = c.at.ensures ∙ ap (λ l. get_or l mid c.at.result.now) c.all-all.ensures in (
      omega arith,
      omega arith,
      i.2,
      λ d. at_last bs mid c.at.result.now (omega arith) read c.args.key.now c.args.number c.is_last_ahead.result false c.is_last_ahead.ensures.is c.if-is_last_ahead.false d,
      paid_step (c.loop-low.high - c.loop-low.low) (mid - c.loop-low.low) (length bs) c.args.steps.now.compared c.loop-low.steps.compared c.is_last_ahead.new.steps.compared i.4 (omega arith) (omega arith) (omega (arith, c.is_last_ahead.ensures.compared)),
      c.is_last_ahead.ensures.moved ∙ i.5,
    )
