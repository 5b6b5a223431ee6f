use Rattle.lsm_manifest.proofs.FindingLemmas.{found_numbers, found_show}
use Rattle.lsm_manifest.proofs.finding.found_tables_show.Goals as goal

pub returns : goal.returns
returns c = record { numbers = found_numbers; shows = found_show c.tables_show_above.ensures }
