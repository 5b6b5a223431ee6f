use Rattle.lsm_pick.proofs.Sweep.{start_moves, best_grows, best_stays}
use Rattle.lsm_pick.proofs.leveled.windows.longest_free.Goals as goal
use Rattle.lsm_pick.proofs.leveled.windows.longest_free.Goals.{then-best-end, else-best-end}

pub loop-end-preserved : goal.loop-end-preserved
loop-end-preserved c =
    let now = rw c.as_slice-tables.ensures at c.in_ok-start.ensures in
    let old = c.loop-end.invariant.0 in (
      start_moves c.args.hidden.now c.args.run.now c.args.next.now c.loop-end.end c.loop-end.start c.in_ok-start.start old now,
      elim c.if-best-end.branch [
        | then-best-end w ↦ rw w.best-is (best_grows c.args.hidden.now c.args.run.now c.args.next.now c.loop-end.end c.loop-end.start c.in_ok-start.start old now c.loop-end.best w.if-best-end.true c.loop-end.invariant.1)
        | else-best-end w ↦ rw w.best-is (best_stays c.args.hidden.now c.args.run.now c.args.next.now c.loop-end.end c.loop-end.start c.in_ok-start.start old now c.loop-end.best w.if-best-end.false c.loop-end.invariant.1)
      ],
    )
