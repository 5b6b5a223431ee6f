use Rattle.lsm_checks.proofs.Endings.{merges_of_inputs_are_steps}
use Rattle.lsm_checks.proofs.laws.merges_of_inputs_are_steps.Goals as goal

pub returns : goal.returns
returns c = merges_of_inputs_are_steps c.tables_are_placed.ensures c.merges_are_steps.ensures
