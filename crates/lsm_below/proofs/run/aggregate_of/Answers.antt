use Rattle.lsm_below.proofs.Hulls.{run_hull}
use Rattle.lsm_below.proofs.run.aggregate_of.Goals as goal

pub returns : goal.returns
returns g c =
    rw (c.in_ok-hull.ensures, c.key_range.ensures, c.key_range-2.ensures)
    (run_hull g.T.Ranged.range c.args.tables.now c.index-tables-0.result c.index-tables-tables.result c.requires.run c.requires.some c.index-tables-0.is c.index-tables-tables.is)
