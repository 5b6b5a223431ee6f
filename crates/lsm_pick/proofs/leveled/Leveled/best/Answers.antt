use Rattle.std.proofs.Common.{◌≡◌, ℕ, arith}
use Rattle.lsm_pick.specs.declared.leveled.scores.Score.{Score}
use Rattle.lsm_pick.specs.Leveled.{IsAtMost, IsUnder, score}
use Rattle.lsm_pick.proofs.BestSteps.{best_takes, best_keeps, under_from_not}
use Rattle.lsm_pick.proofs.leveled.Leveled.best.Goals as goal
use Rattle.lsm_pick.proofs.leveled.Leveled.best.Goals.{then-is_at_most, else-is_at_most}

pub loop-i-preserved : goal.loop-i-preserved
loop-i-preserved c =
    let scores : ℕ → Score = score c.args.self.now c.args.hidden.now c.args.levels.now c.args.base in
    elim c.if-is_at_most.branch [
      | then-is_at_most w ↦
          let some = rw c.score-so_far.ensures.score at c.score-so_far.ensures.some in
          let more : IsAtMost (scores c.loop-i.best) (scores c.loop-i.i) =
          rw (c.score-so_far.ensures.score, c.score-score.ensures.score) at (c.is_at_most.ensures.0 w.if-is_at_most.true) in
          rw w.best-is (best_takes scores c.loop-i.i c.loop-i.best some c.loop-i.invariant more)
      | else-is_at_most w ↦
          let less : IsUnder (scores c.loop-i.i) (scores c.loop-i.best) =
          rw (c.score-so_far.ensures.score, c.score-score.ensures.score) at
          (under_from_not _ _ c.is_at_most.result c.is_at_most.ensures w.if-is_at_most.false) in
          rw w.best-is (best_keeps scores c.loop-i.i c.loop-i.best c.loop-i.invariant less)
    ]

pub returns : goal.returns
returns c = let e : c.loop-i.i ≡ 7 = omega arith in rw e at c.loop-i.invariant
