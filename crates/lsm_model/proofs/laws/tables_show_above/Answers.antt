use Rattle.lsm_model.proofs.Crashes.{shown_above}
use Rattle.lsm_model.proofs.laws.tables_show_above.Goals as goal

pub returns : goal.returns
returns c = shown_above
