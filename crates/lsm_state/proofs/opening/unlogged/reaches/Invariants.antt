use Rattle.std.proofs.Common.{◌≡◌, take, false, nat_le}
use Rattle.std.specs.List.{list_any}
use Rattle.lsm_state.proofs.opening.unlogged.reaches.Given as goal

abbrev pub invariant-loop-number : goal.invariant-loop-number
invariant-loop-number l = list_any (λ k. nat_le l.from k) (take l.number-index l.numbers) ≡ false
