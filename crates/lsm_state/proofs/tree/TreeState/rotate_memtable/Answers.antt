use Rattle.lsm_state.proofs.Kept.{kept_rotated, tables_rotated, rotated_back}
use Rattle.lsm_state.proofs.tree.TreeState.rotate_memtable.Goals as goal

pub invariant_of-self-2 : goal.invariant_of-self-2
invariant_of-self-2 g c =
    let i = c.self.inside in
    rw (c.in_ok-rotate_latest.ensures.ok, c.in_default.ensures.ok, c.set.ensures, c.get-id.ensures)
    (kept_rotated i.memtables i.history i.next_memtable c.self.invariant.0, tables_rotated i.flush i.history i.next_memtable i.next_table c.self.invariant.1)

pub invariant_of-self-in-Err : goal.invariant_of-self-in-Err
invariant_of-self-in-Err g c =
    let i = c.self.inside in
    rw (rotated_back i.history c.rotate_latest.new.self c.rotate_back.new.self c.get-id.result c.in_ok-rotate_latest.ensures.ok c.rotate_back.ensures, c.in-Err.ensures.err) c.self.invariant

pub returns-in-Err-clause-err : goal.returns-in-Err-clause-err
returns-in-Err-clause-err g c =
    let i = c.self.inside in
    rw (rotated_back i.history c.rotate_latest.new.self c.rotate_back.new.self c.get-id.result c.in_ok-rotate_latest.ensures.ok c.rotate_back.ensures, c.in-Err.ensures.err) c.self.view_is
