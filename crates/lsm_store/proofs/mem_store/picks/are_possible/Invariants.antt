use Rattle.std.proofs.Common.{◌<◌, ℕ, List, get_or}
use Rattle.std.specs.Borrow.{Bor}
use Rattle.lsm_store.specs.declared.mem_store.picks.Pick.{Pick}
use Rattle.lsm_store.specs.Memory.{may_of}
use Rattle.lsm_store.specs.Picks.{picked}
use Rattle.lsm_store.proofs.mem_store.picks.are_possible.Given as goal

abbrev pub invariant-loop-name : goal.invariant-loop-name
invariant-loop-name l = (k : ℕ) (d : Bor (List ℕ) × Pick) → k < l.name-index → may_of l.files (get_or l.picks k d).0.now (picked l.files l.picks (get_or l.picks k d).0.now)
