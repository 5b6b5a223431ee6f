use Rattle.std.proofs.Common.{◌+◌, List, slice_range, sym, subst, ap, ◌∙◌, arith}
use Rattle.lsm_below.specs.Entries.{Entry, entry_cmp, HasBytes}
use Rattle.lsm_below.specs.Lookups.{within}
use Rattle.lsm_below.specs.Sorted.{Rises}
use Rattle.lsm_iter.specs.Reads.{at}
use Rattle.lsm_iter.specs.Left.{tops}
use Rattle.lsm_iter.specs.Trims.{IsTrimmed}
use Rattle.lsm_iter.proofs.Firsts.{copied_all}
use Rattle.lsm_iter.proofs.Rises.{rises_range}
use Rattle.lsm_iter.proofs.Trims.{found_inside, found_trimmed, found_tops}
use Rattle.lsm_iter.proofs.trim.places_left.Goals as goal

pub left_len-requires : goal.left_len-requires
left_len-requires c = rises_range entry_cmp c.entries-entries.result.now (c.places-start.result.0 + c.hidden_len.result) c.places-start.result.1 (subst (Rises entry_cmp) (sym c.entries-entries.ensures) c.facts.ensures.table.rises)

pub returns : goal.returns
returns c =
    let s = c.args.below in
    let es = c.entries-entries.result.now in
    let all = c.args.table.now.entries in
    let part = within c.args.bounds.now.0 c.args.bounds.now.1 all in
    let start = c.places-start.result.0 in
    let end = c.places-start.result.1 in
    let h = c.hidden_len.result in
    let r = c.left_len.result in
    let found = c.places-start.ensures in
    record {
      in_order = omega arith;
      inside = found_inside s es all part start end h r c.entries-entries.ensures found.in_order found.inside found.within c.hidden_len.ensures.inside c.left_len.ensures.inside c.hidden_len.ensures.trims c.left_len.ensures.trims;
      trimmed = subst (λ (l : List Entry). IsTrimmed s (slice_range l (start + h) (start + h + r))) c.entries-entries.ensures
          (found_trimmed s es all part start end h r c.entries-entries.ensures found.in_order found.inside found.within c.hidden_len.ensures.inside c.left_len.ensures.inside c.hidden_len.ensures.trims c.left_len.ensures.trims);
      is = ap (λ (l : List Entry). tops (at s (slice_range l (start + h) (start + h + r)))) (sym c.entries-entries.ensures)
          ∙ found_tops s es all part start end h r c.entries-entries.ensures found.in_order found.inside found.within c.hidden_len.ensures.inside c.left_len.ensures.inside c.hidden_len.ensures.trims c.left_len.ensures.trims;
      bytes = copied_all HasBytes c.args.bounds.now.0 c.args.bounds.now.1 s all c.facts.ensures.bytes;
    }
