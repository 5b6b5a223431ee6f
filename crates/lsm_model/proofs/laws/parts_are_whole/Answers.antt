use Rattle.lsm_model.proofs.Runs.{each_above, joined_sources, found_there}
use Rattle.lsm_model.proofs.laws.parts_are_whole.Goals as goal

pub returns : goal.returns
returns c = record { below = each_above; whole = joined_sources; found = found_there }
