use Rattle.lsm_below.proofs.Hulls.{hull_range}
use Rattle.lsm_below.proofs.key_range.KeyRange.joined.Goals as goal

pub invariant_of-result : goal.invariant_of-result
invariant_of-result c =
    rw (c.in_ok-clone.ensures.cases, c.in_ok-clone-2.ensures.cases, c.lesser.ensures, c.greater.ensures)
    (hull_range (record { min = c.self.inside.min; max = c.self.inside.max }) (record { min = c.other.inside.min; max = c.other.inside.max }) c.self.invariant)
