use Rattle.std.proofs.Common.{◌-◌, ◌/◌, arith}
use Rattle.lsm_pick.specs.Fifo.{fresh}
use Rattle.lsm_pick.proofs.FreshSteps.{below_zero, below_mono}
use Rattle.lsm_pick.proofs.fifo.Fifo.turn.Goals as goal

pub loop-low-init : goal.loop-low-init
loop-low-init c =
    let none = below_zero (fresh c.args.self.now c.args.run.now) in
    (omega arith, omega (arith, none, c.requires), λ k more less. absurd (omega (arith, more, less)))

pub loop-low-preserved : goal.loop-low-preserved
loop-low-preserved c = (
  omega (arith, c.loop-low-test.true),
  c.loop-low.invariant.1,
  (λ k more less.
      let grows = below_mono (fresh c.args.self.now c.args.run.now) (c.loop-low.high - (c.loop-low.high - c.loop-low.low) / 2) k (omega (arith, more)) in
      omega (arith, grows, c.fresh_below.ensures.sum, c.if-fresh_below-over.false)),
)
