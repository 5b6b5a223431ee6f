use Rattle.std.proofs.Common.{subst}
use Rattle.lsm_recorded.specs.MarkedTables.{run_entries}
use Rattle.lsm_recorded.specs.Marks.{MarksMore}
use Rattle.lsm_recorded.proofs.OpenedLemmas.{item_breaks_at}
use Rattle.lsm_recorded.proofs.opened.mark_level.Goals as goal

pub returns-then-not-branch : goal.returns-then-not-branch
returns-then-not-branch c =
    item_breaks_at run_entries c.args.runs.now c.loop-at.at c.index-runs-at.result c.loop-at-test.true c.loop-at.invariant.0 c.index-runs-at.is c.args.opened.now c.loop-at.opened c.mark_run.new.opened c.loop-at.invariant.1 c.in_ok-mark_run.field-0
    (subst (λ es. MarksMore c.loop-at.opened c.in_ok-mark_run.field-0 (run_entries es) c.mark_run.new.opened) c.as_slice.ensures c.in_ok-mark_run.ensures) c.if-not-branch.true
