use Rattle.std.proofs.Common.{sym, ap, ◌∙◌}
use Rattle.lsm_versions.specs.Levels.{SeenVersion, tables_shown}
use Rattle.lsm_versions.proofs.Walks.{entries_of, shown_all}
use Rattle.lsm_versions.proofs.version.Version.iter_tables.Goals as goal

pub returns-clause-shown : goal.returns-clause-shown
returns-clause-shown c =
    ap entries_of c.tables_in.ensures
    ∙ sym (shown_all 0 c.self.inside.levels)
    ∙ ap (λ (v : SeenVersion). tables_shown v.levels) c.self.view_is
