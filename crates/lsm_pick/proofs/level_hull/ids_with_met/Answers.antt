use Rattle.std.proofs.Common.{List, subst, filter}
use Rattle.lsm_below.specs.Optimizes.{tables_of}
use Rattle.lsm_tables.specs.Tables.{SeenTable}
use Rattle.lsm_pick.specs.Tables.{meets, AddsIds}
use Rattle.lsm_pick.proofs.IdSets.{adds_all}
use Rattle.lsm_pick.proofs.Ends.{met_filter}
use Rattle.lsm_pick.proofs.level_hull.ids_with_met.Goals as goal

pub returns : goal.returns
returns c =
    let ts : List SeenTable = tables_of c.args.first.now in
    let us : List SeenTable = tables_of c.args.low.now in
    adds_all ts (filter (meets ts) us) c.in_ok-ids.ids.keys c.push_met.new.ids.keys c.in_ok-ids.ensures
    (subst (λ (l : List SeenTable). AddsIds l c.in_ok-ids.ids.keys c.push_met.new.ids.keys) (met_filter ts c.in_ok-hull.hull us c.in_ok-hull.ensures) c.in_ok-push_met.ensures)
