use Rattle.std.proofs.Common.{◌≡◌, ◌↔◌, take, reverse, length}
use Rattle.lsm_state.proofs.flush.register.are_first.Given as goal

-- what is left is first just where the whole is
abbrev pub invariant-oldest : goal.invariant-oldest
invariant-oldest l = (take (length l.newer) l.rest ≡ reverse l.newer) ↔ (take (length l.fn.ids) l.fn.sealed ≡ reverse l.fn.ids)

abbrev pub decreases-oldest : goal.decreases-oldest
decreases-oldest l = length l.newer
