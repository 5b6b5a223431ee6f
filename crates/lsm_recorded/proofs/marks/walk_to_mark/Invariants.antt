use Rattle.std.proofs.Common.{◌≡◌}
use Rattle.std.specs.Map.{lookup}
use Rattle.std.specs.Ordering.{eq_by_cmp}
use Rattle.lsm_recorded.specs.Headed.{headed_cmp}
use Rattle.lsm_recorded.proofs.marks.walk_to_mark.Given as goal

abbrev pub invariant-loop-marked : goal.invariant-loop-marked
invariant-loop-marked l = lookup (eq_by_cmp headed_cmp l.key) l.marks.entries ≡ lookup (eq_by_cmp headed_cmp l.key) l.marked-iterator
