use Rattle.std.proofs.Common.{List, ap, arith, filter, not}
use Rattle.lsm_tables.specs.Tables.{SeenTable}
use Rattle.lsm_model.specs.Steps.{among}
use Rattle.lsm_versions.specs.Levels.{bytes_of}
use Rattle.lsm_pick.proofs.ShownSteps.{shown_first}
use Rattle.lsm_pick.proofs.leveled.levels.unhidden_bytes.Goals as goal

pub loop-table-preserved : goal.loop-table-preserved
loop-table-preserved c =
    let shown = λ (ts : List SeenTable). bytes_of (filter (λ t. not (among c.args.hidden.now t.id)) ts) in
    record {
      fits = omega arith;
      sum = omega (arith, c.loop-table.invariant.sum, ap shown c.in-Some.ensures.steps, shown_first c.args.hidden.now c.in-Some.table.now c.next.new.self, c.shown_size.ensures, c.saturating_add-total.ensures);
    }
