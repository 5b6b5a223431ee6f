use Rattle.std.proofs.Common.{subst}
use Rattle.lsm_below.specs.Entries.{entry_cmp}
use Rattle.lsm_below.specs.Sorted.{Rises}
use Rattle.lsm_iter.proofs.Rises.{rises_left, rises_right}
use Rattle.lsm_iter.proofs.Walks.{both_trimmed}
use Rattle.lsm_iter.proofs.walk.Walk.new.Goals as goal

pub pass_back-requires : goal.pass_back-requires
pass_back-requires c =
    let gone = c.pass_front.ensures.passed in
    rises_right entry_cmp gone.0 c.pass_front.new.rest (subst (Rises entry_cmp) gone.1 c.requires)

pub invariant_of-result : goal.invariant_of-result
invariant_of-result c =
    let front = c.pass_front.ensures.passed in
    let gone = c.pass_back.ensures.passed in
    record {
      rises = rises_left entry_cmp c.pass_back.new.rest gone.0 (subst (Rises entry_cmp) gone.1 (rises_right entry_cmp front.0 c.pass_front.new.rest (subst (Rises entry_cmp) front.1 c.requires)));
      trimmed = (both_trimmed c.args.below c.args.entries c.pass_front.new.rest c.pass_back.new.rest gone.0 c.pass_front.ensures.same c.pass_front.ensures.ends gone.1 c.pass_back.ensures.trims).1;
    }
