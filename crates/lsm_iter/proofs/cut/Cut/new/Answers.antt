use Rattle.std.proofs.Common.{◌∙◌, List, slice_range, sym, ap, subst}
use Rattle.std.specs.List.{All}
use Rattle.lsm_below.specs.Entries.{Entry, entry_cmp, HasBytes}
use Rattle.lsm_below.specs.Sorted.{Rises}
use Rattle.lsm_iter.specs.Reads.{at}
use Rattle.lsm_iter.specs.Left.{tops}
use Rattle.lsm_iter.specs.Trims.{IsTrimmed}
use Rattle.lsm_iter.proofs.Rises.{rises_range}
use Rattle.lsm_iter.proofs.cut.Cut.new.Goals as goal

pub invariant_of-result : goal.invariant_of-result
invariant_of-result c = record {
  rises = rises_range entry_cmp c.entries.result.now c.places_left-low.result.0 c.places_left-low.result.1 (subst (Rises entry_cmp) (sym c.entries.ensures) c.facts.ensures.table.rises);
  trimmed = subst (λ (l : List Entry). IsTrimmed c.args.below (slice_range l c.places_left-low.result.0 c.places_left-low.result.1)) (sym c.entries.ensures) c.places_left-low.ensures.trimmed;
}

pub returns-clause-is : goal.returns-clause-is
returns-clause-is c = ap (λ (l : List Entry). tops (at c.args.below (slice_range l c.places_left-low.result.0 c.places_left-low.result.1))) c.entries.ensures ∙ c.places_left-low.ensures.is

pub returns-clause-bytes : goal.returns-clause-bytes
returns-clause-bytes c = subst (All HasBytes) (sym (returns-clause-is c)) c.places_left-low.ensures.bytes
