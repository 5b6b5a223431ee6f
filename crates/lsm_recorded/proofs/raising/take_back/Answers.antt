use Rattle.std.proofs.Common.{◌++◌, option_to_list, ap, ◌∙◌}
use Rattle.lsm_recorded.specs.Marks.{mark_of}
use Rattle.lsm_recorded.proofs.RaisingLemmas.{taken_back}
use Rattle.lsm_recorded.proofs.raising.take_back.Goals as goal

pub loop-key-preserved-in-Some : goal.loop-key-preserved-in-Some
loop-key-preserved-in-Some c =
    let t = taken_back c.args.raised.now.items (mark_of c.args.marks.now) c.loop-key.marks c.reset.new.marks c.pop.new.self.items c.loop-key.raised.items (c.in-Some.key, c.in-Some.mark) (c.pop.ensures.items ∙ ap (λ o. c.pop.new.self.items ++ option_to_list o) c.in-Some.is) c.reset.ensures.is c.reset.ensures.kept c.loop-key.invariant.raised c.loop-key.invariant.there in
    record { raised = t.0; there = t.1 }

pub loop-key-preserved : goal.loop-key-preserved
loop-key-preserved c =
    let t = taken_back c.args.raised.now.items (mark_of c.args.marks.now) c.loop-key.marks c.reset.new.marks c.pop.new.self.items c.loop-key.raised.items (c.in-Some.key, c.in-Some.mark) (c.pop.ensures.items ∙ ap (λ o. c.pop.new.self.items ++ option_to_list o) c.in-Some.is) c.reset.ensures.is c.reset.ensures.kept c.loop-key.invariant.raised c.loop-key.invariant.there in
    record { raised = t.0; there = t.1 }
