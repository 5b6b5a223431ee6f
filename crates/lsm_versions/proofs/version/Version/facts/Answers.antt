use Rattle.std.proofs.Common.{subst}
use Rattle.std.specs.List.{AllByRecursion}
use Rattle.lsm_below.specs.Entries.{entry_cmp}
use Rattle.lsm_below.specs.Sorted.{Rises}
use Rattle.lsm_model.specs.Views.{IsLaidOut}
use Rattle.lsm_versions.specs.Levels.{SeenVersion, placed_of}
use Rattle.lsm_versions.proofs.Laid.{laid_out, each_placed}
use Rattle.lsm_versions.proofs.version.Version.facts.Goals as goal

pub returns-clause-laid : goal.returns-clause-laid
returns-clause-laid c = subst (λ (v : SeenVersion). IsLaidOut (placed_of v.levels)) c.self.view_is (laid_out c.levels_rise.ensures c.self.inside.levels c.self.invariant.levels_are.covered)

pub returns-clause-rise : goal.returns-clause-rise
returns-clause-rise c =
    subst (λ (v : SeenVersion). AllByRecursion (λ p. Rises entry_cmp p.table.entries) (placed_of v.levels)) c.self.view_is
    (each_placed (λ t. Rises entry_cmp t.entries) (λ p. Rises entry_cmp p.table.entries) (λ n t h. h) 0 c.self.inside.levels c.self.invariant.levels_are.rising)
