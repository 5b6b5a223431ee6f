use Rattle.std.proofs.Common.{◌∷◌, ◌++◌, [], filter, option_copied, sym, ap, ◌∙◌}
use Rattle.lsm_iter.specs.Cursors.{firsts_after}
use Rattle.lsm_iter.specs.Trims.{counts}
use Rattle.lsm_iter.proofs.Walks.{front_step, passed_more}
use Rattle.lsm_iter.proofs.walk.pass_front.Goals as goal

pub loop-next-preserved : goal.loop-next-preserved
loop-next-preserved c =
    let e = c.in-Some.next in
    let behind = c.drop_first.new.self in
    let next = c.in-Some.ensures ∙ ap (λ l. e ∷ l) (sym c.drop_first.ensures) in
    let gone = c.loop-next.invariant.passed in
    record {
      same =
          front_step c.args.below (option_copied c.args.passed) e behind (sym c.is_left.ensures ∙ c.if-is_left.false)
          ∙ sym (ap (λ l. firsts_after (option_copied c.args.passed) (filter (counts c.args.below) l)) next) ∙ c.loop-next.invariant.same;
      passed = (gone.0 ++ e ∷ [], passed_more c.args.rest.now c.loop-next.rest behind gone.0 e gone.1 next);
    }
