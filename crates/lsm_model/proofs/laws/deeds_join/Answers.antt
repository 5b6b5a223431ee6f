use Rattle.lsm_model.proofs.Crashes.{join, split}
use Rattle.lsm_model.proofs.laws.deeds_join.Goals as goal

pub returns : goal.returns
returns c = record { joined = join; cut = split }
