use Rattle.lsm_checks.proofs.Lookups.{ids_tell}
use Rattle.lsm_checks.proofs.lookup.ids_stand.Goals as goal

pub returns : goal.returns
returns c = ids_tell c.in_ok-there.there.keys c.args.levels.now c.in_ok-there.ensures c.args.inputs.now c.are_there-stands.result c.requires c.are_there-stands.ensures
