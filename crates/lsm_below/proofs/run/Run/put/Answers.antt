use Rattle.lsm_below.proofs.Placing.{put_run, put_some}
use Rattle.lsm_below.proofs.run.Run.put.Goals as goal

pub invariant_of-self-2 : goal.invariant_of-self-2
invariant_of-self-2 g c =
    let range = g.T.Ranged.range in
    rw c.in_ok-put_table.ensures.ok (
      put_run range c.args.table c.self.inside.tables.items c.put_table.ensures.range c.self.invariant.0 (rw c.self.view_is c.requires),
      put_some range c.args.table c.self.inside.tables.items,
    )
