-- The end of a merge is a step.
use Rattle.std.proofs.Common.{subst, ap, ◌∙◌}
use Rattle.lsm_below.specs.Entries.{stack, IsFalling}
use Rattle.lsm_model.specs.Views.{held, chosen_of}
use Rattle.lsm_model.specs.Steps.{among}
use Rattle.lsm_model.specs.Laws.{TablesArePlaced}
use Rattle.lsm_versions.specs.Levels.{placed_of}
use Rattle.lsm_versions.specs.Installs.{MergesAreSteps}
use Rattle.lsm_versions.specs.TableLaws.{entries_of_placed}
use Rattle.lsm_checks.specs.Endings.{MergesOfInputsAreSteps}

pub merges_of_inputs_are_steps : TablesArePlaced → MergesAreSteps → MergesOfInputsAreSteps
merges_of_inputs_are_steps placed_law merges opened w n to ids evict inputs run old levels next tables allowed covers placed laid same keeps =
    merges opened w n to ids evict run old levels next tables allowed covers placed laid (λ ordered k.
    let falls = subst (λ ps. IsFalling (stack k (held (chosen_of (among ids) ps)))) tables (placed_law.falls k (λ p. among ids p.table.id) old.mems old.latest ordered) in
    ap (stack k) (entries_of_placed to run) ∙ keeps k (stack k (held (chosen_of (among ids) (placed_of levels)))) falls (same k))
