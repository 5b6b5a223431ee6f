use Rattle.std.proofs.Common.{List, [], ◌∷◌, ◌++◌, sym, ap, ◌∙◌, append-nil}
use Rattle.lsm_below.specs.Ranges.{Range}
use Rattle.lsm_tables.specs.Tables.{SeenTable}
use Rattle.lsm_model.specs.Steps.{among}
use Rattle.lsm_versions.specs.Levels.{range}
use Rattle.lsm_compaction.specs.Passing.{takes_in, leaves_out}
use Rattle.lsm_journal.proofs.DroppedRanges.{ranges_in, ranges_shown}
use Rattle.lsm_journal.proofs.compaction.ranges.ranges_of.Goals as goal

pub loop-table-preserved-in_ok-push : goal.loop-table-preserved-in_ok-push
loop-table-preserved-in_ok-push c =
    let test = λ (t : SeenTable). among c.args.ids.now.keys t.id in
    let left : List SeenTable = c.next.new.self in
    let out : List Range = c.loop-table.ranges.items in
    ap (λ (l : List Range). l ++ ranges_in (among c.args.ids.now.keys) left) (c.in_ok-push.ensures.items ∙ ap (λ (r : Range). out ++ r ∷ []) (c.in_ok-copy.ensures ∙ c.key_range.ensures))
    ∙ takes_in test range out c.in-Some.table.now left (sym (ap (among c.args.ids.now.keys) c.id.ensures) ∙ sym c.has_id.ensures ∙ c.if-has_id.true)
    ∙ sym (ap (λ (ts : List SeenTable). out ++ ranges_in (among c.args.ids.now.keys) ts) c.in-Some.ensures.steps)
    ∙ c.loop-table.invariant

pub loop-table-preserved : goal.loop-table-preserved
loop-table-preserved c =
    let test = λ (t : SeenTable). among c.args.ids.now.keys t.id in
    let left : List SeenTable = c.next.new.self in
    leaves_out test range c.loop-table.ranges.items c.in-Some.table.now left (sym (ap (among c.args.ids.now.keys) c.id.ensures) ∙ sym c.has_id.ensures ∙ c.if-has_id.false)
    ∙ sym (ap (λ (ts : List SeenTable). c.loop-table.ranges.items ++ ranges_in (among c.args.ids.now.keys) ts) c.in-Some.ensures.steps)
    ∙ c.loop-table.invariant

pub returns : goal.returns
returns c =
    sym (append-nil c.loop-table.ranges.items)
    ∙ sym (ap (λ (ts : List SeenTable). c.loop-table.ranges.items ++ ranges_in (among c.args.ids.now.keys) ts) c.in-None.ensures.steps.0)
    ∙ c.loop-table.invariant ∙ sym (ranges_shown (among c.args.ids.now.keys) c.args.version.now.levels)
