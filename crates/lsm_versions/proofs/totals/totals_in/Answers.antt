use Rattle.std.proofs.Common.{[], ◌∷◌, ◌∙◌}
use Rattle.lsm_versions.specs.Walked.{walk_starts, walk_goes, walk_ends}
use Rattle.lsm_versions.proofs.totals.totals_in.Goals as goal

pub loop-table-init : goal.loop-table-init
loop-table-init c = walk_starts (c.into_iter-table-iterator.ensures.into_iter_gives ∙ c.tables_in-table-items.ensures) c.none-totals.ensures

pub loop-table-preserved : goal.loop-table-preserved
loop-table-preserved c =
    let w = c.loop-table.invariant in
    walk_goes c.in-Some.ensures.steps w (c.plus-totals.ensures w.done (c.in-Some.table.now ∷ []) w.holds c.of.ensures)

pub returns : goal.returns
returns c = walk_ends c.in-None.ensures.steps.0 c.loop-table.invariant
