use Rattle.std.proofs.Common.{subst}
use Rattle.lsm_tables.specs.Tables.{SeenTable}
use Rattle.lsm_recorded.specs.Marks.{MarksMore}
use Rattle.lsm_recorded.proofs.OpenedLemmas.{item_breaks_at}
use Rattle.lsm_recorded.proofs.opened.mark_run.Goals as goal

pub returns-then-not-branch : goal.returns-then-not-branch
returns-then-not-branch c =
    item_breaks_at (λ (t : SeenTable). t.entries) c.args.tables.now c.loop-at.at c.index-tables-at.result c.loop-at-test.true c.loop-at.invariant.0 c.index-tables-at.is c.args.opened.now c.loop-at.opened c.mark_entries.new.opened c.loop-at.invariant.1 c.in_ok-mark_entries.field-0
    (subst (λ es. MarksMore c.loop-at.opened c.in_ok-mark_entries.field-0 es c.mark_entries.new.opened) c.entries.ensures c.in_ok-mark_entries.ensures) c.if-not-branch.true
