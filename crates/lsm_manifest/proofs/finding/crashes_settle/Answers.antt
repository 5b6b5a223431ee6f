use Rattle.lsm_manifest.proofs.FindingLemmas.{settled, stands_still}
use Rattle.lsm_manifest.proofs.Readiness.{settled_stands}
use Rattle.lsm_manifest.proofs.finding.crashes_settle.Goals as goal

pub returns : goal.returns
returns g c = record {
  settled = λ store. settled (g.S.Store.world store);
  ready = λ store image m stands begins.
      let w = g.S.Store.world store in
      let still = stands_still w image m stands begins in
      (settled_stands c.no_image_begins_another.ensures w still.levels (settled w image m stands begins) still.found).ready;
  stands = λ store. stands_still (g.S.Store.world store);
}
