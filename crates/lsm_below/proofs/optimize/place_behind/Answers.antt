use Rattle.std.proofs.Common.{◌≡◌, ◌-◌, arith, rules, sym, ◌∙◌, true}
use Rattle.lsm_below.proofs.Placing.{free_from}
use Rattle.lsm_below.proofs.optimize.place_behind.Goals as goal

pub loop-place-preserved : goal.loop-place-preserved
loop-place-preserved g c =
    let i = c.loop-place.invariant in
    let t = c.loop-place-test.true in
    let f : c.is_free_of.result ≡ true = search rules in (
      omega arith,
      free_from g.T.Ranged.range c.args.range.now c.args.runs.now (c.loop-place.place - 1) c.loop-place.place c.index-runs-place.result (omega arith) (omega arith) c.index-runs-place.is (sym c.is_free_of.ensures ∙ f) i.1,
    )
