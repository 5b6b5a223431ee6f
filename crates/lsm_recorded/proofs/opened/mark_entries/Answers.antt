use Rattle.lsm_recorded.proofs.OpenedLemmas.{one_breaks_at}
use Rattle.lsm_recorded.proofs.opened.mark_entries.Goals as goal

pub returns-then-not-branch : goal.returns-then-not-branch
returns-then-not-branch c =
    one_breaks_at c.args.entries.now c.loop-at.at c.index-entries-at.result c.loop-at-test.true c.loop-at.invariant.0 c.index-entries-at.is c.args.opened.now c.loop-at.opened c.mark_entry.new.opened c.loop-at.invariant.1 c.in_ok-mark_entry.field-0 c.in_ok-mark_entry.ensures c.if-not-branch.true
