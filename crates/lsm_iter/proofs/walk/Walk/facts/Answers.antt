use Rattle.std.proofs.Common.{subst}
use Rattle.lsm_below.specs.Sorted.{Rises}
use Rattle.lsm_iter.specs.Shown.{by_key}
use Rattle.lsm_iter.proofs.Tops.{rises_tops}
use Rattle.lsm_iter.proofs.walk.Walk.facts.Goals as goal

pub returns : goal.returns
returns c = subst (Rises by_key) c.self.view_is (rises_tops c.self.inside.below c.self.inside.rest c.self.invariant.rises)
