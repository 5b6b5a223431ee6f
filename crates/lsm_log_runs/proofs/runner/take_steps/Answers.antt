use Rattle.std.proofs.Common.{◌∙◌, ◌+◌, ◌++◌, ap, [], ◌∷◌, sym, length, length-append, take}
use Rattle.std.proofs.lemmas.List.{take_more}
use Rattle.lsm_log_runs.proofs.Runs.{ran_more}
use Rattle.lsm_log_runs.proofs.runner.take_steps.Goals as goal

pub loop-step-preserved : goal.loop-step-preserved
loop-step-preserved g c =
    let h = c.in-Ok.ensures.ok in
    let x = c.step-item.result in
    let more = take_more c.args.steps.now c.loop-step.step-index x c.loop-step-test.true ∙ ap (λ y. take c.loop-step.step-index c.args.steps.now ++ y ∷ []) (sym c.step-item.is) in
    record {
      ran = rw (h.1, more) (ran_more _ _ _ _ _ _ x h.0 _ c.loop-step.invariant.ran h.2 h.3);
      many = ap (λ l. length l) h.1 ∙ length-append _ _ ∙ ap (λ n. n + 1) c.loop-step.invariant.many;
    }
