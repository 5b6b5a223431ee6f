use Rattle.lsm_recorded.proofs.MarksLemmas.{mark_set}
use Rattle.lsm_recorded.proofs.marks.set_mark.Goals as goal

pub returns : goal.returns
returns c q = mark_set c.args.marks.now c.insert.new.self c.args.key c.args.mark q (c.in_ok-insert.ensures.updates.0 q)
