use Rattle.std.proofs.Common.{Bool, ◌∙◌, ap}
use Rattle.std.specs.List.{list_any}
use Rattle.lsm_below.specs.Ranges.{overlap}
use Rattle.lsm_tables.specs.Tables.{SeenTable}
use Rattle.lsm_versions.specs.Levels.{range}
use Rattle.lsm_pick.proofs.Ends.{any_flat}
use Rattle.lsm_pick.proofs.level_hull.meets_level.Goals as goal

pub returns-in-Some : goal.returns-in-Some
returns-in-Some c =
    let p : SeenTable → Bool = λ t. overlap (range t) c.in-Some.hull in
    rw c.in-Some.is (c.runs_meet.ensures ∙ (ap (list_any (λ run. list_any p run)) c.as_slice.ensures ∙ any_flat p c.args.level.now))
