use Rattle.std.proofs.Common.{◌≡◌, ◌∙◌, sym, arith, rules, true, subst, drop, length, ◌<◌}
use Rattle.lsm_below.specs.Ranges.{IsRange}
use Rattle.lsm_below.specs.Runs.{IsRun}
use Rattle.lsm_below.specs.Greedy.{starts_behind}
use Rattle.lsm_below.proofs.Placing.{run_whole, run_part, tail_is}
use Rattle.lsm_below.proofs.run.is_run.Goals as goal

pub loop-rest-preserved : goal.loop-rest-preserved
loop-rest-preserved g c =
    let range = g.T.Ranged.range in
    let xs = c.loop-rest.rest.now in
    let i = c.loop-rest.invariant in
    let e = tail_is range xs in
    let x = c.index-rest-0.result in
    let some : 0 < length xs = grind (arith, rules) in
    let v : IsRange (range x) = subst IsRange c.key_range.ensures c.facts.ensures in
    let starts : starts_behind range (range x) (drop 1 xs) ≡ true = rw (← e, ← c.key_range-in-loop-rest.ensures) (sym c.begins_behind.ensures ∙ c.if-not-begins_behind.false) in
    record {
      whole = λ h. i.whole (run_whole range xs x some c.index-rest-0.is v starts (subst (λ ys. IsRun range ys) e h));
      part = λ h. subst (λ ys. IsRun range ys) (sym e) (run_part range xs (i.part h));
    }
