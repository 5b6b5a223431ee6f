use Rattle.lsm_manifest.proofs.FindingLemmas.{opening_finds}
use Rattle.lsm_manifest.proofs.finding.opening_finds.Goals as goal

pub returns : goal.returns
returns g c = opening_finds c.no_image_begins_another.ensures _ g.S.Store.world
