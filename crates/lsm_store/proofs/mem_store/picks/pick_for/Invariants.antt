use Rattle.std.proofs.Common.{◌≡◌, drop}
use Rattle.lsm_store.specs.Picks.{pick_for}
use Rattle.lsm_store.proofs.mem_store.picks.pick_for.Given as goal

abbrev pub invariant-loop-of : goal.invariant-loop-of
invariant-loop-of l = pick_for l.picks l.name ≡ pick_for (drop l.of-index l.picks) l.name
