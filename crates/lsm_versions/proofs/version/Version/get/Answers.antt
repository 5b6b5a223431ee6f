use Rattle.std.proofs.Common.{sym, ap, ◌∙◌}
use Rattle.lsm_model.specs.Views.{walk}
use Rattle.lsm_versions.specs.Levels.{all_of}
use Rattle.lsm_versions.proofs.Walks.{entries_of, shown_all}
use Rattle.lsm_versions.proofs.version.Version.get.Goals as goal

pub returns : goal.returns
returns c =
    let k = c.args.key.now in
    let s = c.args.snapshot in
    c.walk_levels.ensures
    ∙ ap (λ l. walk k s (entries_of (all_of l))) c.levels.ensures
    ∙ sym (ap (walk k s) (shown_all 0 c.args.self.now.levels))
