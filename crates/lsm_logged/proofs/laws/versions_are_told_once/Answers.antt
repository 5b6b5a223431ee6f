use Rattle.lsm_logged.proofs.Versions.{from_once, version_once}
use Rattle.lsm_logged.proofs.laws.versions_are_told_once.Goals as goal

pub returns-clause-from : goal.returns-clause-from
returns-clause-from c image u v a b same = from_once image u v a b same

pub returns-clause-version : goal.returns-clause-version
returns-clause-version c versions image v one found reads = version_once c.images_stand_once.ensures.found versions image v one found reads
