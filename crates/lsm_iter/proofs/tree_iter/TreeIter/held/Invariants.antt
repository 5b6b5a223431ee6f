use Rattle.std.proofs.Common.{◌≡◌, take}
use Rattle.lsm_below.specs.Sums.{capped}
use Rattle.lsm_iter.specs.Left.{held_in}
use Rattle.lsm_iter.proofs.tree_iter.TreeIter.held.Given as goal

abbrev pub invariant-loop-cursor : goal.invariant-loop-cursor
invariant-loop-cursor l = l.held ≡ capped (held_in (take l.cursor-index l.cursor-items))
