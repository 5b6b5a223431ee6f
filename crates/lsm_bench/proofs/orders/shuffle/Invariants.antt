use Rattle.std.specs.List.Sorted.{IsPermutation}
use Rattle.lsm_bench.proofs.orders.shuffle.Given as goal

abbrev pub invariant-loop-place : goal.invariant-loop-place
invariant-loop-place l = IsPermutation l.initial.order l.order
