-- The tree before and after the call is the one that the lock guards.
use Rattle.std.proofs.Common.{ap}
use Rattle.lsm_state.specs.Calls.{SealsActive}
use Rattle.lsm_handles.proofs.Answered.{refused_more}
use Rattle.lsm_handles.proofs.recorded.Handle+Recorded+S.rotate_memtable.Goals as goal

pub returns : goal.returns
returns g c =
    let told = c.rotate_memtable-told in
    let same = refused_more told.result _ _ (ap (λ t. t.tree.core)) told.ensures.err in
    let seals : SealsActive told.result c.deref_mut-tree.result.now.tree.core told.new.self.tree.core = record { ok = told.ensures.core; empty = told.ensures.empty; err = same; out_of_numbers = told.ensures.out_of_numbers; told = told.ensures.told; only = told.ensures.only } in
    (c.deref_mut-tree.result.now, told.new.self, record { call = seals; store = told.ensures.store; journal = told.ensures.journal; opened = told.ensures.opened; passed = told.ensures.pass }, c.facts.ensures, c.facts-2.ensures)
