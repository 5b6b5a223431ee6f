use Rattle.lsm_versions.proofs.Ids.{changed_same}
use Rattle.lsm_versions.proofs.laws.changes_keep_tables.Goals as goal

pub returns : goal.returns
returns c = changed_same
