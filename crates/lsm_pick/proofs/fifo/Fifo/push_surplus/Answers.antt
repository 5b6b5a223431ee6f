use Rattle.std.proofs.Common.{◌≡◌, ◌+◌, cond, ◌∷◌, take, drop, ap, ◌∙◌, sym, arith}
use Rattle.lsm_pick.specs.Fifo.{fresh, surplus}
use Rattle.lsm_pick.proofs.FreshSteps.{surplus_step, due_moves, at_more}
use Rattle.lsm_pick.proofs.fifo.Fifo.push_surplus.Goals as goal

pub loop-table-preserved : goal.loop-table-preserved
loop-table-preserved c =
    let rule = c.args.self.now in
    let run = c.args.run.now in
    let i = c.loop-table.table-index in
    let t = c.table-item.result in
    let turn = c.turn-turn.result in
    let older = c.loop-table.older in
    let rest = surplus c.args.over (fresh rule (take (i + 1) run)) (fresh rule (drop (i + 1) run)) in
    let now = surplus c.args.over (fresh rule (take i run)) (fresh rule (drop i run)) in
    let step = surplus_step rule c.args.over turn older run i t (omega (arith, c.loop-table-test.true)) c.table-item.is c.is_due.ensures.made c.turn-turn.ensures c.loop-table.invariant.1 in
    let due : now ≡ cond c.is_due.result (t ∷ rest) rest = step ∙ ap (λ b. cond b (t ∷ rest) rest) (sym c.is_due.ensures.due) in
    let more = at_more rule turn run i t (omega (arith, c.loop-table-test.true)) c.table-item.is in (
      (λ k. due_moves c.is_due.result t now rest c.loop-table.ids.keys c.push_if.new.ids.keys k due c.in_ok-push_if.ensures ∙ c.loop-table.invariant.0 k),
      omega (arith, more, c.loop-table.invariant.1, c.from-older.ensures, c.size_at.ensures.bytes),
      omega (arith, c.loop-table.invariant.2, c.from-older.ensures, c.size_at.ensures.fits),
    )
