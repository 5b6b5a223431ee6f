use Rattle.std.proofs.Common.{◌+◌, ◌-◌}
use Rattle.lsm_pick.proofs.Ends.{part_run}
use Rattle.lsm_pick.proofs.leveled.Leveled.better.Goals as goal

pub fit_cost-requires-clause-run : goal.fit_cost-requires-clause-run
fit_cost-requires-clause-run c = part_run (c.args.place + c.args.count - c.args.place) c.args.place c.args.next.now c.requires.next
