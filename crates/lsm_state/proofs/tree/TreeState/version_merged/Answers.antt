use Rattle.std.proofs.Common.{sym, ap, ◌∙◌, subst}
use Rattle.lsm_versions.specs.Levels.{SeenVersion, AreNew}
use Rattle.lsm_state.proofs.Merges.{Makes, made_at, new_beside, merged_settles, merged_on_disk, merged_into}
use Rattle.lsm_state.proofs.tree.TreeState.version_merged.Goals as goal

pub with_merge-requires-clause-new : goal.with_merge-requires-clause-new
with_merge-requires-clause-new g c =
    subst (λ (v : SeenVersion). AreNew c.args.tables.now v.levels) (sym c.current_version-latest.ensures) (new_beside c.args.self.now.core c.args.job.now c.args.tables.now c.requires.merged)

pub returns-clause-made : goal.returns-clause-made
returns-clause-made g c first fresh =
    let v = c.in_ok-version in
    let job = c.args.job.now in
    let makes : Makes c.args.tables.now v.version c.ids.result.now.keys c.from-to.result c.current_version-latest.result.now = record { next = v.ensures.ok; covers = v.ensures.covers; placed = v.ensures.placed } in
    let made = made_at job c.args.self.now.core c.args.tables.now v.version c.ids.result.now.keys c.from-to.result c.current_version-latest.result.now c.ids.ensures (c.from-to.ensures ∙ ap (λ s. s.dest_level) c.settings.ensures) c.current_version-latest.ensures makes in
    merged_into c.args.self.now.core job c.requires.may c.args.tables.now c.requires.merged v.version made v.ensures.laid c.facts-4.ensures.is.own_ids first fresh

pub returns-clause-settles : goal.returns-clause-settles
returns-clause-settles g c =
    let v = c.in_ok-version in
    let job = c.args.job.now in
    let makes : Makes c.args.tables.now v.version c.ids.result.now.keys c.from-to.result c.current_version-latest.result.now = record { next = v.ensures.ok; covers = v.ensures.covers; placed = v.ensures.placed } in
    let made = made_at job c.args.self.now.core c.args.tables.now v.version c.ids.result.now.keys c.from-to.result c.current_version-latest.result.now c.ids.ensures (c.from-to.ensures ∙ ap (λ s. s.dest_level) c.settings.ensures) c.current_version-latest.ensures makes in
    merged_settles c.args.self.now.core c.facts.ensures c.changes_keep_tables.ensures job c.facts-2.ensures c.requires.may c.args.tables.now c.requires.merged v.version made c.facts-4.ensures.is.own_ids

pub returns-clause-on_disk : goal.returns-clause-on_disk
returns-clause-on_disk g c tells disk =
    let v = c.in_ok-version in
    let job = c.args.job.now in
    let makes : Makes c.args.tables.now v.version c.ids.result.now.keys c.from-to.result c.current_version-latest.result.now = record { next = v.ensures.ok; covers = v.ensures.covers; placed = v.ensures.placed } in
    let made = made_at job c.args.self.now.core c.args.tables.now v.version c.ids.result.now.keys c.from-to.result c.current_version-latest.result.now c.ids.ensures (c.from-to.ensures ∙ ap (λ s. s.dest_level) c.settings.ensures) c.current_version-latest.ensures makes in
    merged_on_disk c.args.self.now.core c.facts.ensures c.changes_keep_tables.ensures job c.facts-2.ensures c.requires.may c.args.tables.now c.requires.merged v.version made c.facts-4.ensures.is.own_ids (g.S.Store.world c.args.self.now.store) disk
