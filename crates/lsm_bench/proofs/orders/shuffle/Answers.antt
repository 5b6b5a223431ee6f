use Rattle.std.proofs.lemmas.List.Sorted.{IsPermutation-trans}
use Rattle.lsm_bench.proofs.orders.shuffle.Goals as goal

pub loop-place-preserved : goal.loop-place-preserved
loop-place-preserved c =
    IsPermutation-trans c.args.order.now c.loop-place.order c.swap.new.self c.loop-place.invariant c.swap.ensures.permutation
