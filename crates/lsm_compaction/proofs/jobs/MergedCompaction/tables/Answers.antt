use Rattle.std.proofs.Common.{◌<◌, ◌^◌, ℕ, List, sym, ap, map, subst, ◌∙◌}
use Rattle.std.specs.List.{AllByRecursion}
use Rattle.std.proofs.lemmas.Result.{IfOk-weaker}
use Rattle.lsm_below.specs.Keys.{Bytes}
use Rattle.lsm_tables.specs.Image.{image}
use Rattle.lsm_compaction.specs.Merges.{SeenCompacted, IsFileOf, HoldFiles, AreTablesOf}
use Rattle.lsm_compaction.specs.declared.settings.MergeSettings.{MergeSettings}
use Rattle.lsm_compaction.proofs.MadeTables.{are_files, tables_hold}
use Rattle.lsm_compaction.proofs.jobs.MergedCompaction.tables.Goals as goal

pub tables_at-requires-clause-files : goal.tables_at-requires-clause-files
tables_at-requires-clause-files c =
    let images = c.self.invariant.images in
    let made_at = c.settings-settings.result.made_at in
    let same = ap (λ (s : MergeSettings). s.made_at) c.settings-settings.ensures in
    let files = are_files made_at images.tables images.each in
    let written = c.deref.ensures.value ∙ images.spelled ∙ ap (λ (n : ℕ). map (image n) images.tables) (sym same) in
    subst (AllByRecursion (IsFileOf made_at)) (sym written) files

pub returns-clause-tables : goal.returns-clause-tables
returns-clause-tables c =
    let inside = c.self.inside in
    let job = inside.job in
    let ids = c.args.ids.now in
    let same = ap (λ (s : MergeSettings). s.made_at) c.settings-settings.ensures in
    let fits = subst (λ (n : ℕ). n < 2 ^ 64) same c.tables_at.ensures.moment in
    IfOk-weaker c.tables_at.result _ (λ tables. AreTablesOf c.args.self.now.job c.args.self.now.files ids tables.items)
    (λ tables at.
    let here = subst (λ (n : ℕ). HoldFiles n inside.files.items ids tables.items) same (subst (λ (l : List Bytes). HoldFiles c.settings-settings.result.made_at l ids tables.items) c.deref.ensures.value at) in
    let all = tables_hold c.no_image_begins_another.ensures c.cut_tables_are_runs.ensures job inside.files.items ids tables.items fits c.self.invariant here in
    subst (λ (m : SeenCompacted). AreTablesOf m.job m.files ids tables.items) c.self.view_is all)
    c.tables_at.ensures.tables
