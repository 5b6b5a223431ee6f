use Rattle.std.proofs.Common.{◌∙◌, ◌+◌, ◌++◌, ap, [], ◌∷◌, sym, length, length-append, take}
use Rattle.std.proofs.lemmas.List.{take_more}
use Rattle.lsm_commit.specs.Foreign.{passes_then}
use Rattle.lsm_runs.proofs.Causing.{causes_more}
use Rattle.lsm_runs.proofs.Chains.{ran_more as along_more}
use Rattle.lsm_runs.proofs.Replays.{ran_more}
use Rattle.lsm_runs.proofs.Unknown.{unknown_more, step_unknown}
use Rattle.lsm_runs.proofs.runner.take_steps.Goals as goal

pub loop-step-preserved : goal.loop-step-preserved
loop-step-preserved g c =
    let h = c.in-Ok.ensures.ok in
    let x = c.step-item.result in
    let more = take_more c.args.steps.now c.loop-step.step-index x c.loop-step-test.true ∙ ap (λ y. take c.loop-step.step-index c.args.steps.now ++ y ∷ []) (sym c.step-item.is) in
    record {
      ran = rw (h.1, more) (ran_more _ _ _ x h.0 _ _ _ c.loop-step.invariant.ran h.2);
      unknown = rw (h.1, more) (unknown_more _ _ _ x h.0 _ _ _ _ _ _ c.loop-step.invariant.unknown h.2 (step_unknown _ x h.0 _ _ _ _ h.2 c.in-Ok.ensures.no_call));
      causes = rw h.1 (causes_more g.S.Store.world _ h.0 _ _ _ c.loop-step.invariant.causes h.3);
      many = ap (λ l. length l) h.1 ∙ length-append _ _ ∙ ap (λ n. n + 1) c.loop-step.invariant.many;
      stored = λ tells h. ((c.in-Ok.ensures.upholds tells).files (c.loop-step.invariant.stored tells h)).0;
      passes = λ tells. passes_then _ _ _ (c.loop-step.invariant.passes tells) (c.in-Ok.ensures.upholds tells).passes;
      along = λ tells. rw (h.1, more) (along_more g.S.Store.world _ x h.0 _ _ _ _ _ (c.loop-step.invariant.along tells) h.2 (record { upholds = c.in-Ok.ensures.upholds tells; leaves = c.in-Ok.ensures.files tells; stays = c.is_upheld-in-Ok.ensures tells; no_call = c.in-Ok.ensures.no_call; cause = h.3 }));
    }
