use Rattle.std.proofs.Common.{sym, ◌∙◌, ◌+◌, ◌-◌, ◌/◌, length, arith}
use Rattle.lsm_below.proofs.Search.{all_ahead, none_ahead}
use Rattle.lsm_memtable.proofs.Paid.{paid_step}
use Rattle.lsm_memtable.proofs.block.Block.place.Goals as goal

pub loop-low-preserved-then-is_ahead : goal.loop-low-preserved-then-is_ahead
loop-low-preserved-then-is_ahead c =
    let i = c.loop-low.invariant in
    let t = c.loop-low-test.true in
    let mid = c.loop-low.low + (c.loop-low.high - c.loop-low.low) / 2 in (
      omega arith,
      i.1,
      all_ahead c.entries_are_parted.ensures c.args.self.now c.requires.rises c.args.key.now c.args.number mid (omega arith) (λ d. sym (c.is_ahead.ensures.is d) ∙ c.if-is_ahead.true),
      i.3,
      paid_step (c.loop-low.high - c.loop-low.low) (c.loop-low.high - (mid + 1)) (length c.args.self.now - 1) c.args.steps.now.compared c.loop-low.steps.compared c.is_ahead.new.steps.compared i.4 (omega arith) (omega arith) (omega (arith, c.is_ahead.ensures.compared)),
      c.is_ahead.ensures.moved ∙ i.5,
    )

pub loop-low-preserved : goal.loop-low-preserved
loop-low-preserved c =
    let i = c.loop-low.invariant in
    let t = c.loop-low-test.true in
    let mid = c.loop-low.low + (c.loop-low.high - c.loop-low.low) / 2 in (
      omega arith,
      omega arith,
      i.2,
      none_ahead c.entries_are_parted.ensures c.args.self.now c.requires.rises c.args.key.now c.args.number mid (omega arith) (λ d. sym (c.is_ahead.ensures.is d) ∙ c.if-is_ahead.false),
      paid_step (c.loop-low.high - c.loop-low.low) (mid - c.loop-low.low) (length c.args.self.now - 1) c.args.steps.now.compared c.loop-low.steps.compared c.is_ahead.new.steps.compared i.4 (omega arith) (omega arith) (omega (arith, c.is_ahead.ensures.compared)),
      c.is_ahead.ensures.moved ∙ i.5,
    )
