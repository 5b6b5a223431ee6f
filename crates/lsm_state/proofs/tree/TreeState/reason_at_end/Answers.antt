use Rattle.std.proofs.Common.{◌∙◌, sym, subst}
use Rattle.lsm_checks.specs.Choices.{AreOneById}
use Rattle.lsm_state.specs.Compactions.{levels_of}
use Rattle.lsm_versions.specs.Levels.{SeenVersion}
use Rattle.lsm_state.proofs.tree.TreeState.reason_at_end.Goals as goal

pub last_reason_by_ids-requires : goal.last_reason_by_ids-requires
last_reason_by_ids-requires g c =
    let inputs = c.deref.ensures.value ∙ c.in_ok-inputs.ensures in
    let here = subst (λ ts. AreOneById ts (levels_of c.args.self.now.core)) (sym inputs) (c.requires.own c.if-own.true) in
    subst (λ (v : SeenVersion). AreOneById c.deref.result.now v.levels) (sym c.current_version-latest.ensures) here
