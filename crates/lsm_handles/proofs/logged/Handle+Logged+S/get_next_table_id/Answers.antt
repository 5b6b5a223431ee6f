-- The tree that gives the id is the one that the lock guards.
use Rattle.std.proofs.Common.{◌+◌, ap}
use Rattle.lsm_state.specs.Calls.{Draws}
use Rattle.lsm_state.specs.Flushes.{with_next_table}
use Rattle.lsm_handles.proofs.Answered.{refused_more}
use Rattle.lsm_handles.proofs.logged.Handle+Logged+S.get_next_table_id.Goals as goal

pub returns : goal.returns
returns g c =
    let told = c.get_next_table_id-told in
    let same = refused_more told.result _ _ (ap (λ t. t.core)) told.ensures.err in
    let draws : Draws (λ t. t.next_table) (λ t. with_next_table (t.next_table + 1) t) told.result c.deref_mut-tree.result.now.core told.new.self.core = record { ok = told.ensures.ok; used = told.ensures.used; err = same; out_of_numbers = told.ensures.out_of_numbers; only = told.ensures.only } in
    (c.deref_mut-tree.result.now, told.new.self, record { call = draws; store = told.ensures.store; numbers = told.ensures.log.0; doubt = told.ensures.log.1 }, c.facts.ensures, c.facts-2.ensures)
