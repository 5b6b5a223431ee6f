use Rattle.std.proofs.Common.{ap, sym, ◌∙◌}
use Rattle.lsm_model.specs.Steps.{among}
use Rattle.lsm_versions.specs.Levels.{SeenVersion}
use Rattle.lsm_checks.specs.Choices.{first_reason_of}
use Rattle.lsm_state.specs.Compactions.{hidden_in, levels_of}
use Rattle.lsm_state.proofs.Choices.{hides_is, reason_same}
use Rattle.lsm_state.proofs.tree.TreeState.first_reason.Goals as goal

pub returns-clause-value : goal.returns-clause-value
returns-clause-value g c =
    let core = c.args.self.now.core in
    let kind = c.args.kind in
    let ids = c.args.ids.now.keys in
    let hidden = c.hidden_set-hidden.result.now in
    c.in_ok-first_reason.ensures.value ∙ ap (λ (v : SeenVersion). first_reason_of kind ids c.from-to.result hidden v.levels) c.current_version-latest.ensures
    ∙ ap (λ n. first_reason_of kind ids n hidden (levels_of core)) c.from-to.ensures
    ∙ reason_same kind ids c.args.to hidden (hidden_in core) (levels_of core) (λ i. ap (λ l. among l i) c.hidden_set-hidden.ensures ∙ c.compaction_state.ensures i ∙ sym (hides_is core.merges.underway i))
