use Rattle.lsm_run_model.proofs.Sealed.{notes_tell_sealed}
use Rattle.lsm_run_model.proofs.laws.notes_tell_sealed.Goals as goal

pub returns : goal.returns
returns c = notes_tell_sealed
