use Rattle.lsm_manifest.proofs.FindingLemmas.{found_once, map_once}
use Rattle.lsm_manifest.proofs.finding.images_stand_once.Goals as goal

pub returns : goal.returns
returns c = record { found = found_once c.no_image_begins_another.ensures; map = map_once c.no_image_begins_another.ensures }
