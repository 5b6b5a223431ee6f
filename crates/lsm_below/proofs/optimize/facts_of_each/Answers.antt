use Rattle.std.proofs.Common.{◌<◌, List, length, subst, arith}
use Rattle.std.specs.List.{All}
use Rattle.std.proofs.lemmas.List.{take_all}
use Rattle.std.proofs.lemmas.List.Elements.{All-more}
use Rattle.lsm_below.specs.Runs.{IsRun}
use Rattle.lsm_below.proofs.optimize.facts_of_each.Goals as goal

pub loop-run-preserved : goal.loop-run-preserved
loop-run-preserved g c =
    let P = λ (r : List g.row.T.Denot). IsRun g.T.Ranged.range r × (0 < length r) in
    All-more P c.args.runs.now c.loop-run.run-index c.run-item.result c.loop-run-test.true c.loop-run.invariant (subst P c.run-item.is (c.facts.ensures.run, c.facts.ensures.some))

pub returns : goal.returns
returns g c =
    let P = λ (r : List g.row.T.Denot). IsRun g.T.Ranged.range r × (0 < length r) in
    subst (All P) (take_all c.loop-run.run-index c.args.runs.now (omega (arith, c.loop-run-test.false))) c.loop-run.invariant
