use Rattle.std.proofs.Common.{List, inl}
use Rattle.lsm_tables.specs.Tables.{SeenTable}
use Rattle.lsm_pick.specs.Leveled.{window}
use Rattle.lsm_pick.proofs.leveled.Leveled.from_runs.Goals as goal

pub returns : goal.returns
returns c =
    let w = c.in-Some.w in
    let part : List SeenTable = window c.as_slice-tables.result.now w.place w.count in
    let found = rw c.in-Some.is at c.in_ok-w.ensures in
    inl (
      w.place,
      (
        w.count,
        (
          found,
          rw c.as_slice-tables.ensures at (c.choice_of.ensures part c.args.to c.args.down c.args.self.now.target (c.input.ensures part c.in_ok-ids.ensures)),
        ),
      ),
    )
