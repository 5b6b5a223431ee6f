use Rattle.std.proofs.Common.{ap, ◌∙◌, rules}
use Rattle.lsm_versions.specs.Levels.{range}
use Rattle.lsm_versions.specs.Walked.{walk_starts, walk_goes, walk_ends}
use Rattle.lsm_pick.specs.Simple.{holds}
use Rattle.lsm_pick.proofs.IdSets.{adds_passing}
use Rattle.lsm_pick.proofs.drop_range.ids_within.Goals as goal

pub loop-table-init : goal.loop-table-init
loop-table-init c = walk_starts (c.into_iter-table-iterator.ensures.into_iter_gives ∙ c.tables_in-table-items.ensures) (λ i. search rules)

pub loop-table-preserved : goal.loop-table-preserved
loop-table-preserved c =
    let w = c.loop-table.invariant in
    walk_goes c.in-Some.ensures.steps w
    (adds_passing (λ t. holds c.args.bounds.now (range t)) w.done c.in-Some.table.now c.contains.result c.loop-table.ids.keys c.push_if.new.ids.keys (c.contains.ensures ∙ ap (holds c.args.bounds.now) c.key_range.ensures) w.holds c.in_ok-push_if.ensures)

pub returns : goal.returns
returns c = walk_ends c.in-None.ensures.steps.0 c.loop-table.invariant
