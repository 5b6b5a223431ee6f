use Rattle.std.proofs.Common.{◌≡◌, take}
use Rattle.lsm_flush.specs.Jobs.{ids_in}
use Rattle.lsm_state.proofs.flush.register.have_ids.Given as goal

-- as far as they were compared, they are the same
abbrev pub invariant-loop-at : goal.invariant-loop-at
invariant-loop-at l = ids_in (take l.at l.memtables) ≡ take l.at l.ids
