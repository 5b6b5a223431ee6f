use Rattle.lsm_pick.proofs.Sweep.{IsStart, IsBestBelow}
use Rattle.lsm_pick.proofs.leveled.windows.longest_free.Given as goal

abbrev pub invariant-loop-end : goal.invariant-loop-end
invariant-loop-end l = IsStart l.hidden l.run l.next l.end l.start × IsBestBelow l.hidden l.run l.next l.end l.best
