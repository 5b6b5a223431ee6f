use Rattle.std.proofs.Common.{◌≡◌, None, IfOk, sym, subst}
use Rattle.lsm_state.specs.Compactions.{IsPossible}
use Rattle.lsm_state.proofs.Choices.{merge_possible}
use Rattle.lsm_state.proofs.tree.TreeState.reason_to_decline.Goals as goal

pub returns-in-Merge-clause-possible : goal.returns-in-Merge-clause-possible
returns-in-Merge-clause-possible g c =
    let told = c.first_reason-in-Merge in
    subst (λ choice. IfOk told.result (λ why. why ≡ None → IsPossible choice c.args.self.now.core)) (sym c.in-Merge.is) (merge_possible c.in-Merge.input c.args.self.now.core told.result told.ensures.value told.ensures.there)
