use Rattle.std.proofs.Common.{sym, arith}
use Rattle.lsm_checks.proofs.Parting.{parted_more}
use Rattle.lsm_checks.proofs.parted_run.part_levels.Goals as goal

pub loop-i-preserved : goal.loop-i-preserved
loop-i-preserved c =
    let e = parted_more c.args.ids.now.keys c.args.levels.now c.loop-i.i c.index-levels-i.result (omega arith) c.index-levels-i.is in
    rw (c.in_ok-push_parted.ensures, c.loop-i.invariant, c.as_slice.ensures) (sym e)
