use Rattle.lsm_recorded.proofs.MarksLemmas.{mark_set}
use Rattle.lsm_recorded.proofs.raising.reset.Goals as goal

pub returns-in-Some-clause-is : goal.returns-in-Some-clause-is
returns-in-Some-clause-is c q =
    let m = c.args.mark in
    mark_set c.args.marks.now (c.get_mut.follows.lender m) c.args.key.now m q (((c.get_mut.follows.holds m).3 c.requires).0 q)
