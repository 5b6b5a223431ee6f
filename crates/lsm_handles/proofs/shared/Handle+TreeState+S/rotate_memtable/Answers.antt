-- The tree before and after the call is the one that the lock guards.
use Rattle.std.proofs.Common.{ap}
use Rattle.lsm_handles.proofs.Answered.{refused_more}
use Rattle.lsm_handles.proofs.shared.Handle+TreeState+S.rotate_memtable.Goals as goal

pub returns : goal.returns
returns g c =
    let told = c.rotate_memtable-told in
    let same = refused_more told.result _ _ (ap (λ t. t.core)) told.ensures.err in
    (c.deref_mut-tree.result.now, told.new.self, record { ok = told.ensures.ok; empty = told.ensures.empty; err = same; out_of_numbers = told.ensures.out_of_numbers; told = told.ensures.told; only = told.ensures.only }, told.ensures.store, c.facts.ensures, c.facts-2.ensures)
