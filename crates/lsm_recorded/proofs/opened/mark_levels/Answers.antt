use Rattle.std.proofs.Common.{subst}
use Rattle.lsm_recorded.specs.MarkedTables.{level_entries}
use Rattle.lsm_recorded.specs.Marks.{MarksMore}
use Rattle.lsm_recorded.proofs.OpenedLemmas.{item_breaks_at}
use Rattle.lsm_recorded.proofs.opened.mark_levels.Goals as goal

pub returns-then-not-branch : goal.returns-then-not-branch
returns-then-not-branch c =
    item_breaks_at level_entries c.args.levels.now c.loop-at.at c.index-levels-at.result c.loop-at-test.true c.loop-at.invariant.0 c.index-levels-at.is c.args.opened.now c.loop-at.opened c.mark_level.new.opened c.loop-at.invariant.1 c.in_ok-mark_level.field-0
    (subst (λ es. MarksMore c.loop-at.opened c.in_ok-mark_level.field-0 (level_entries es) c.mark_level.new.opened) c.as_slice.ensures c.in_ok-mark_level.ensures) c.if-not-branch.true
