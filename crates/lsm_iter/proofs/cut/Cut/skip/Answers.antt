use Rattle.std.proofs.Common.{length, take, drop, sym, subst}
use Rattle.std.proofs.lemmas.List.{take_rest, take-append-drop}
use Rattle.lsm_below.specs.Entries.{entry_cmp}
use Rattle.lsm_below.specs.Sorted.{Rises}
use Rattle.lsm_iter.specs.Trims.{IsTrimmed}
use Rattle.lsm_iter.proofs.Rises.{rises_range, rises_left}
use Rattle.lsm_iter.proofs.cut.Cut.skip.Goals as goal

pub invariant_of-self : goal.invariant_of-self
invariant_of-self c =
    let t = c.self.inside in
    let n = c.past_front-past.result in
    record {
      rises = rises_range entry_cmp t.rest.now n (length t.rest.now) c.self.invariant.rises;
      trimmed = subst (IsTrimmed t.below) (sym (take_rest t.rest.now n)) c.past_front-past.ensures.trimmed;
    }

pub invariant_of-self-in-Back : goal.invariant_of-self-in-Back
invariant_of-self-in-Back c =
    let t = c.self.inside in
    let n = c.past_back-len.result in
    record {
      rises = rises_left entry_cmp (take n t.rest.now) (drop n t.rest.now) (subst (Rises entry_cmp) (sym (take-append-drop n t.rest.now)) c.self.invariant.rises);
      trimmed = c.past_back-len.ensures.trimmed;
    }
