use Rattle.std.proofs.Common.{◌≡◌, ◌∙◌, List, slice_range, length, sym, ap, subst, arith}
use Rattle.std.specs.List.{All}
use Rattle.lsm_below.specs.Entries.{Entry, HasBytes}
use Rattle.lsm_tables.specs.Tables.{SeenTable}
use Rattle.lsm_iter.specs.Reads.{at}
use Rattle.lsm_iter.specs.Left.{tops}
use Rattle.lsm_iter.specs.Trims.{IsTrimmed}
use Rattle.lsm_iter.proofs.trim.Trim.new.Goals as goal

pub invariant_of-result : goal.invariant_of-result
invariant_of-result c =
    let kept : c.args.table.now.entries ≡ c.in_ok-table.table.entries = sym (ap (λ (t : SeenTable). t.entries) c.in_ok-table.ensures) in (
      c.places_left-low.ensures.in_order,
      omega (arith, ap length kept, c.places_left-low.ensures.inside),
      subst (λ (l : List Entry). IsTrimmed c.args.below (slice_range l c.places_left-low.result.0 c.places_left-low.result.1)) kept c.places_left-low.ensures.trimmed,
    )

pub returns-clause-is : goal.returns-clause-is
returns-clause-is c =
    ap (λ (t : SeenTable). tops (at c.args.below (slice_range t.entries c.places_left-low.result.0 c.places_left-low.result.1))) c.in_ok-table.ensures
    ∙ c.places_left-low.ensures.is

pub returns-clause-bytes : goal.returns-clause-bytes
returns-clause-bytes c = subst (All HasBytes) (sym (returns-clause-is c)) c.places_left-low.ensures.bytes
