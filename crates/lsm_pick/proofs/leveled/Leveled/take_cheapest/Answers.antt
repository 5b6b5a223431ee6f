use Rattle.std.proofs.Common.{◌+◌, ◌-◌, List, ◌++◌, inl, sym, subst}
use Rattle.lsm_below.specs.Runs.{IsRun}
use Rattle.lsm_tables.specs.Tables.{SeenTable}
use Rattle.lsm_versions.specs.Levels.{range}
use Rattle.lsm_checks.specs.Choices.{AreIdsOf}
use Rattle.lsm_pick.specs.Tables.{AddsIds}
use Rattle.lsm_pick.specs.Leveled.{window, pulled}
use Rattle.lsm_pick.proofs.Ends.{part_run}
use Rattle.lsm_pick.proofs.IdSets.{adds_all}
use Rattle.lsm_pick.proofs.leveled.Leveled.take_cheapest.Goals as goal

pub within_part-requires-clause-run : goal.within_part-requires-clause-run
within_part-requires-clause-run c =
    part_run (c.in-Some.w.place + c.in-Some.w.count - c.in-Some.w.place) c.in-Some.w.place c.as_slice-tables.result.now
    (subst (λ (ts : List SeenTable). IsRun range ts) (sym c.as_slice-tables.ensures) c.facts.ensures)

pub returns : goal.returns
returns c =
    let w = c.in-Some.w in
    let run : List SeenTable = c.args.run.now in
    let part : List SeenTable = window c.as_slice-tables.result.now w.place w.count in
    let names : AreIdsOf c.push_ids.new.ids.keys (part ++ pulled run part) =
    adds_all part (pulled run part) c.in_ok-ids.ids.keys c.push_ids.new.ids.keys c.in_ok-ids.ensures
    (subst (λ (ts : List SeenTable). AddsIds ts c.in_ok-ids.ids.keys c.push_ids.new.ids.keys) c.in_ok-within_part.ensures c.in_ok-push_ids.ensures) in
    let found = rw c.in-Some.is at c.in_ok-w.ensures in
    inl (w.place, (w.count, (found, rw c.as_slice-tables.ensures at (c.input.ensures (part ++ pulled run part) names))))
