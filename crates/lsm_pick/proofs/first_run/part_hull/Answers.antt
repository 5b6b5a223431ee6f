use Rattle.lsm_pick.proofs.Ends.{run_ends}
use Rattle.lsm_pick.proofs.first_run.part_hull.Goals as goal

pub returns : goal.returns
returns c =
    rw (c.in_ok-hull.ensures, c.key_range.ensures, c.key_range-2.ensures)
    (run_ends c.args.tables.now c.index-tables-0.result c.index-tables-tables.result c.requires.run c.requires.some c.index-tables-0.is c.index-tables-tables.is)
