use Rattle.std.proofs.Common.{map, ◌∙◌, sym, subst}
use Rattle.std.specs.List.{All}
use Rattle.std.proofs.lemmas.List.Elements.{All-append}
use Rattle.lsm_below.specs.Entries.{HasBytes}
use Rattle.lsm_below.specs.Sorted.{Rises}
use Rattle.lsm_iter.specs.Shown.{by_key}
use Rattle.lsm_iter.specs.Joined.{joined}
use Rattle.lsm_iter.proofs.Disjoint.{left_kept, left_whole, run_rises}
use Rattle.lsm_iter.proofs.parts.Parts.new.Goals as goal

pub loop-table-preserved : goal.loop-table-preserved
loop-table-preserved g c =
    let old = joined (map g.P.Part.left c.loop-table.parts.items) in
    let new = joined (map g.P.Part.left c.push_part.new.parts.items) in
    let part = g.P.Part.left c.in_ok-of_table.field-0 in
    record {
      bytes = subst (All HasBytes) (sym c.in_ok-push_part.ensures.joined) (All-append HasBytes old part c.loop-table.invariant.bytes c.in_ok-of_table.ensures.bytes);
      full = c.push_part.ensures.full;
      joined = left_kept c.args.bounds.now.0 c.args.bounds.now.1 c.args.below c.touched-table-items.result.now c.loop-table.table-index c.table-item.result old part new
          c.loop-table-test.true c.table-item.is c.in_ok-push_part.ensures.joined c.in_ok-of_table.ensures.is c.loop-table.invariant.joined;
    }

pub invariant_of-result : goal.invariant_of-result
invariant_of-result g c =
    let tables = c.touched-table-items.result.now in
    let all = left_whole c.args.bounds.now.0 c.args.bounds.now.1 c.args.below tables c.loop-table.table-index (joined (map g.P.Part.left c.loop-table.parts.items)) c.loop-table-test.false c.loop-table.invariant.joined in
    (subst (Rises by_key) (sym all) (run_rises c.args.bounds.now.0 c.args.bounds.now.1 c.args.below tables c.touched-table-items.ensures.run c.touched-table-items.ensures.sound), c.loop-table.invariant.full)

pub returns-clause-is : goal.returns-clause-is
returns-clause-is g c =
    left_whole c.args.bounds.now.0 c.args.bounds.now.1 c.args.below c.touched-table-items.result.now c.loop-table.table-index (joined (map g.P.Part.left c.loop-table.parts.items)) c.loop-table-test.false c.loop-table.invariant.joined
    ∙ c.touched-table-items.ensures.same c.args.below
