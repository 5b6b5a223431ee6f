use Rattle.lsm_below.specs.Optimizes.{tables_of}
use Rattle.lsm_below.specs.Greedy.{IsPlaced}
use Rattle.lsm_below.proofs.optimize.place_runs.Given as goal

abbrev pub invariant-loop-run : goal.invariant-loop-run
invariant-loop-run g l = IsPlaced g.T.Ranged.range (tables_of l.yielded) l.placed.items
