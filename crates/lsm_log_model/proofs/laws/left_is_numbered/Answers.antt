use Rattle.lsm_log_model.proofs.Numbered.{left_numbered}
use Rattle.lsm_log_model.proofs.laws.left_is_numbered.Goals as goal

pub returns : goal.returns
returns c = left_numbered c.reads_are_sound.ensures c.maps_are_read.ensures c.parts_are_whole.ensures c.tables_are_placed.ensures
