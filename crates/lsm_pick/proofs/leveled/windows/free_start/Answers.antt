use Rattle.std.proofs.Common.{◌-◌}
use Rattle.lsm_pick.proofs.Ends.{part_run}
use Rattle.lsm_pick.proofs.leveled.windows.free_start.Goals as goal

pub is_free-requires-clause-run : goal.is_free-requires-clause-run
is_free-requires-clause-run c = part_run (c.args.end - c.loop-place.place) c.loop-place.place c.args.run.now c.requires.run
