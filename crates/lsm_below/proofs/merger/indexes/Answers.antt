use Rattle.std.proofs.Common.{Ok, arith, refl, subst, List, ℕ}
use Rattle.std.specs.declared.alloc.AllocError.{AllocError}
use Rattle.std.proofs.lemmas.Iterator.{items_from_collect, YieldsList-from_range}
use Rattle.std.specs.List.Sorted.{IsPermutation}
use Rattle.lsm_below.proofs.merger.indexes.Goals as goal

pub returns : goal.returns
returns c =
    let n = c.args.count in
    let all = items_from_collect {E = AllocError} (Ok c.in_ok-order.order) c.in_ok-order.ensures.ran (YieldsList-from_range 0 n n refl (omega arith)) in
    subst (λ (xs : List ℕ). IsPermutation xs c.reverse.new.self.items) all c.reverse.ensures.permutation
