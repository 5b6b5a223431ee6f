use Rattle.std.proofs.Common.{Some, ap, sym, ◌∙◌}
use Rattle.lsm_versions.specs.declared.totals.Totals.{Totals}
use Rattle.lsm_versions.specs.Levels.{SeenVersion, all_of}
use Rattle.lsm_versions.specs.Totals.{totals_of}
use Rattle.lsm_state.specs.Counts.{tables_now}
use Rattle.lsm_state.proofs.Countings.{highest_in_none, highest_in_some}
use Rattle.lsm_state.proofs.tree.TreeState.get_highest_persisted_seqno.Goals as goal

pub returns-then-totals-eq0 : goal.returns-then-totals-eq0
returns-then-totals-eq0 g c =
    let totals = c.totals-totals.ensures ∙ ap (λ (v : SeenVersion). totals_of (all_of v.levels)) c.current_version.ensures in
    sym (highest_in_none (tables_now c.args.self.now.core) c.totals-totals.result.items (ap (λ (t : Totals). t.items) totals) c.if-totals-eq0.true)

pub returns : goal.returns
returns g c =
    let totals = c.totals-totals.ensures ∙ ap (λ (v : SeenVersion). totals_of (all_of v.levels)) c.current_version.ensures in
    ap (λ (t : Totals). Some t.highest) totals ∙ sym (highest_in_some (tables_now c.args.self.now.core) c.totals-totals.result.items (ap (λ (t : Totals). t.items) totals) c.if-totals-eq0.false)
