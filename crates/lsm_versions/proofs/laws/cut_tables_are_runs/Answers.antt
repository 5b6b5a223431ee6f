use Rattle.lsm_versions.proofs.Cuts.{cut_tables_are_runs}
use Rattle.lsm_versions.proofs.laws.cut_tables_are_runs.Goals as goal

pub returns : goal.returns
returns c = cut_tables_are_runs c.cuts_are_runs.ensures
