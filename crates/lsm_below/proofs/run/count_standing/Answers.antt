use Rattle.std.proofs.Common.{sym, ◌∙◌, ◌+◌, ◌-◌, ◌/◌, arith, ap}
use Rattle.lsm_below.specs.Runs.{stands}
use Rattle.lsm_below.proofs.Cuts.{all_to, none_from}
use Rattle.lsm_below.proofs.run.count_standing.Goals as goal

pub loop-low-preserved-then-stands_so : goal.loop-low-preserved-then-stands_so
loop-low-preserved-then-stands_so g c =
    let i = c.loop-low.invariant in
    let t = c.loop-low-test.true in (
      omega arith,
      i.1,
      all_to g.T.Ranged.range c.args.tables.now c.requires c.args.side c.args.key.now (c.loop-low.low + (c.loop-low.high - c.loop-low.low) / 2) c.index-tables-mid.result (omega arith) c.index-tables-mid.is (ap (stands c.args.side c.args.key.now) (sym c.key_range.ensures) ∙ (sym c.stands_so.ensures ∙ c.if-stands_so.true)),
      i.3,
    )

pub loop-low-preserved : goal.loop-low-preserved
loop-low-preserved g c =
    let i = c.loop-low.invariant in
    let t = c.loop-low-test.true in (
      omega arith,
      omega arith,
      i.2,
      none_from g.T.Ranged.range c.args.tables.now c.requires c.args.side c.args.key.now (c.loop-low.low + (c.loop-low.high - c.loop-low.low) / 2) c.index-tables-mid.result (omega arith) c.index-tables-mid.is (ap (stands c.args.side c.args.key.now) (sym c.key_range.ensures) ∙ (sym c.stands_so.ensures ∙ c.if-stands_so.false)),
    )

pub returns : goal.returns
returns g c =
    let i = c.loop-low.invariant in record {
      at_most = omega arith;
      before = i.2;
      behind = λ j d le lt. i.3 j d (omega arith) lt;
    }
