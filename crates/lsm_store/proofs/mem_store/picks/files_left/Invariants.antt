use Rattle.std.proofs.Common.{◌≡◌, List, ℕ, map}
use Rattle.std.specs.Map.Iter.{deref_pair}
use Rattle.lsm_store.specs.Files.{held_at}
use Rattle.lsm_store.specs.Picks.{picked}
use Rattle.lsm_store.proofs.HeldLeft.{left_among}
use Rattle.lsm_store.proofs.mem_store.picks.files_left.Given as goal

abbrev pub invariant-loop-name : goal.invariant-loop-name
invariant-loop-name l = (n : List ℕ) → held_at l.left n ≡ left_among (picked l.files l.picks) (map deref_pair l.yielded) n
