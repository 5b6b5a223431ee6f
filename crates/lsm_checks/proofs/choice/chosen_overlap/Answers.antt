use Rattle.std.proofs.Common.{◌≡◌, length, ltb, ap, ◌∙◌, arith}
use Rattle.lsm_checks.proofs.Clashes.{joined_shows}
use Rattle.lsm_checks.proofs.choice.chosen_overlap.Goals as goal

pub returns : goal.returns
returns c =
    let runs = c.in_ok-runs.runs in
    let len : c.len.result ≡ length runs.items = omega (arith, c.len.ensures, runs.ok.0) in
    ap (ltb 1) len ∙ joined_shows c.args.ids.now.keys c.args.levels.now c.in_ok-chosen_runs.field-0.items runs.items c.in_ok-chosen_runs.ensures c.in_ok-runs.ensures.rules
