use Rattle.std.proofs.Common.{ap, ◌∙◌, length, flat_map}
use Rattle.lsm_below.specs.Sums.{capped}
use Rattle.lsm_versions.specs.declared.totals.Totals.{Totals}
use Rattle.lsm_versions.specs.Levels.{all_of}
use Rattle.lsm_versions.specs.Totals.{totals_of}
use Rattle.lsm_parts.specs.declared.version.super_version.SuperVersion.{SuperVersion}
use Rattle.lsm_parts.specs.Held.{entries_of}
use Rattle.lsm_state.proofs.Countings.{all_counted}
use Rattle.lsm_state.proofs.tree.TreeState.approximate_len.Goals as goal

pub returns : goal.returns
returns g c =
    let i = c.self.inside in
    let held = entries_of i.memtables in
    let latest = c.latest_version-latest.ensures in
    let sealed = c.len_of-sealed.ensures ∙ ap (λ ids. capped (length (flat_map held ids))) (c.as_slice.ensures ∙ ap (λ (sv : SuperVersion). sv.sealed_memtables) latest) in
    let active = c.len_at-active.ensures ∙ ap (λ (sv : SuperVersion). length (held sv.active_memtable)) latest in
    let items = ap (λ (t : Totals). t.items) (c.totals.ensures ∙ ap (λ (sv : SuperVersion). totals_of (all_of sv.version.levels)) latest) in
    rw (← c.self.view_is)
    (all_counted held i.history.latest.sealed_memtables i.history.latest.active_memtable (all_of i.history.latest.version.levels) _ _ _ _ _ sealed active c.saturating_add.ensures items c.saturating_add-2.ensures)
