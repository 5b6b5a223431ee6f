use Rattle.lsm_model.proofs.Answers.{get-map_of}
use Rattle.lsm_model.proofs.Journals.{same_key, get-changed}
use Rattle.lsm_model.proofs.laws.maps_are_read.Goals as goal

pub returns : goal.returns
returns c = record { same_key = same_key; changed = get-changed; map_of = get-map_of }
