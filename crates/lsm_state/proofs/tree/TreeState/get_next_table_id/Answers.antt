use Rattle.std.proofs.Common.{◌≡◌, ℕ, ◌+◌, ◌≤◌, Result, Ok, Err, OnOk, OnErr, arith}
use Rattle.lsm_below.specs.declared.error.Error.{Error}
use Rattle.lsm_state.proofs.Writing.{tables_later}
use Rattle.lsm_state.proofs.tree.TreeState.get_next_table_id.Goals as goal

rises : (r : Result ℕ Error) (old new : ℕ) → OnOk r (new ≡ old + 1) → OnErr r (new ≡ old) → old ≤ new
rises (Ok n) old new used same = omega (arith, used)
rises (Err e) old new used same = omega (arith, same)

pub invariant_of-self : goal.invariant_of-self
invariant_of-self g c =
    let i = c.self.inside in
    (c.self.invariant.0, tables_later i.history i.flush i.next_table c.next.new.self (rises c.next.result i.next_table c.next.new.self c.next.ensures.used c.next.ensures.err) c.self.invariant.1)
