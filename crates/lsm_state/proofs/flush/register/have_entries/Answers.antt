use Rattle.lsm_state.proofs.Comparing.{has_own}
use Rattle.lsm_state.proofs.flush.register.have_entries.Goals as goal

pub returns-then-not-has_entries : goal.returns-then-not-has_entries
returns-then-not-has_entries c =
    (λ f. absurd (cc f), λ same. c.if-not-has_entries.ensures.1 (has_own c.args.held.now c.args.memtables.now c.loop-memtable.memtable-index c.memtable-item.result c.loop-memtable-test.true c.memtable-item.is same))
