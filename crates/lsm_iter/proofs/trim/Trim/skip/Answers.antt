use Rattle.std.proofs.Common.{◌+◌, slice_range, sym, subst}
use Rattle.lsm_below.specs.Entries.{entry_cmp}
use Rattle.lsm_below.specs.Sorted.{Rises}
use Rattle.lsm_iter.specs.Reads.{at}
use Rattle.lsm_iter.specs.Left.{tops, end_item, Takes}
use Rattle.lsm_iter.specs.declared.tree_iter.End.TheVariants.{Front}
use Rattle.lsm_iter.proofs.Rises.{rises_range}
use Rattle.lsm_iter.proofs.Trims.{low_moved}
use Rattle.lsm_iter.proofs.trim.Trim.skip.Goals as goal

pub past_front-requires-clause-rises : goal.past_front-requires-clause-rises
past_front-requires-clause-rises c = rises_range entry_cmp c.entries.result.now c.self.inside.low c.self.inside.high (subst (Rises entry_cmp) (sym c.entries.ensures) c.facts.ensures.table.rises)

pub past_back-requires-clause-rises : goal.past_back-requires-clause-rises
past_back-requires-clause-rises c = rises_range entry_cmp c.entries.result.now c.self.inside.low c.self.inside.high (subst (Rises entry_cmp) (sym c.entries.ensures) c.facts.ensures.table.rises)

pub invariant_of-self : goal.invariant_of-self
invariant_of-self c =
    let t = c.self.inside in
    let moved = low_moved t.below t.table.entries c.entries.result.now t.low t.high c.past_front.result c.entries.ensures c.self.invariant.0 c.self.invariant.1 c.past_front.ensures.inside c.past_front.ensures.takes c.past_front.ensures.trimmed in
    (moved.0, c.self.invariant.1, moved.2)

pub returns-in-Front : goal.returns-in-Front
returns-in-Front c =
    let t = c.self.inside in
    let moved = low_moved t.below t.table.entries c.entries.result.now t.low t.high c.past_front.result c.entries.ensures c.self.invariant.0 c.self.invariant.1 c.past_front.ensures.inside c.past_front.ensures.takes c.past_front.ensures.trimmed in
    let left = tops (at t.below (slice_range t.table.entries (t.low + c.past_front.result) t.high)) in
    subst (λ end. Takes end c.args.self.now (end_item end c.args.self.now) left) (sym c.in-Front.is) (subst (λ l. Takes Front l (end_item Front l) left) c.self.view_is moved.1)
