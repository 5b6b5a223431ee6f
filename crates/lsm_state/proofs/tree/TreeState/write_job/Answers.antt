use Rattle.lsm_state.specs.Cleaning.{RemovesDrawn}
use Rattle.std.proofs.Common.{sym, ap, subst, refl}
use Rattle.lsm_state.specs.Commits.{Upholds}
use Rattle.lsm_state.proofs.WholeFlushes.{upholds_same, upholds_spent}
use Rattle.lsm_state.proofs.tree.TreeState.write_job.Goals as goal

pub returns-in-Err-clause-upholds : goal.returns-in-Err-clause-upholds
returns-in-Err-clause-upholds g c tells =
    let w = g.S.Store.world in
    let now = c.args.self.now in
    let n = c.in-Err.job.number in
    let new = c.abandon_flush.new.self in
    subst (Upholds (w now.store) (w new.store) now.core) (sym c.abandon_flush.ensures.core) (upholds_spent (w now.store) (w new.store) now.core now.core n (upholds_same (w now.store) (w new.store) now.core now.core (ap w c.abandon_flush.ensures.store) refl refl (c.stays_stored.ensures tells)))

pub returns-in-Err-flush_to_tables-clause-upholds : goal.returns-in-Err-flush_to_tables-clause-upholds
returns-in-Err-flush_to_tables-clause-upholds g c tells =
    let w = g.S.Store.world in
    let now = c.args.self.now in
    let mid = c.flush_to_tables.new.self in
    let n = c.into_job.result.number in
    let new = c.abandon_flush-in-Err-flush_to_tables.new.self in
    let same = c.abandon_flush-in-Err-flush_to_tables.ensures.store in
    subst (λ s. Upholds (w now.store) (w s) now.core new.core) (sym same) (subst (Upholds (w now.store) (w mid.store) now.core) (sym c.abandon_flush-in-Err-flush_to_tables.ensures.core) (upholds_spent (w now.store) (w mid.store) now.core mid.core n (c.flush_to_tables.ensures.upholds tells)))

pub returns-in-Err-flush_to_tables-clause-refused : goal.returns-in-Err-flush_to_tables-clause-refused
returns-in-Err-flush_to_tables-clause-refused g c tells small =
    let w = g.S.Store.world in
    let now = c.args.self.now in
    let mid = c.flush_to_tables.new.self in
    let new = c.abandon_flush-in-Err-flush_to_tables.new.self in
    let behind = c.abandon_flush-in-Err-flush_to_tables.ensures in
    let did = c.in-Err-flush_to_tables.ensures.files.refused tells small in
    subst (λ s. RemovesDrawn now.core.next_table new.core.next_table (w now.store) (w s)) (sym behind.store) (subst (λ n. RemovesDrawn now.core.next_table n (w now.store) (w mid.store)) (sym (ap (λ k. k.next_table) behind.core)) did)
