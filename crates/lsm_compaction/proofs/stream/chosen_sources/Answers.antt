use Rattle.std.proofs.Common.{false, List, [], ◌∷◌, ◌++◌, map, filter, sym, ap, ◌∙◌, append-nil}
use Rattle.lsm_below.specs.Slots.{rest_of}
use Rattle.lsm_below.specs.Streams.{Rest}
use Rattle.lsm_tables.specs.Tables.{SeenTable}
use Rattle.lsm_model.specs.Steps.{among}
use Rattle.lsm_compaction.specs.Passing.{takes_in, leaves_out}
use Rattle.lsm_compaction.proofs.stream.chosen_sources.Goals as goal

abbrev source : SeenTable → Rest
source t = rest_of false t.entries

pub loop-table-preserved-in-Continue-1 : goal.loop-table-preserved-in-Continue-1
loop-table-preserved-in-Continue-1 c =
    let test = λ (t : SeenTable). among c.args.ids.now.keys t.id in
    let left : List SeenTable = c.next.new.self in
    ap (λ (l : List Rest). l ++ map source (filter test left)) (c.in_ok-push.ensures.items ∙ ap (λ (s : Rest). c.loop-table.sources.items ++ s ∷ []) c.of_table.ensures)
    ∙ takes_in test source c.loop-table.sources.items c.in-Some.table.now left (sym (ap (among c.args.ids.now.keys) c.id.ensures) ∙ sym c.has_id.ensures ∙ c.if-has_id.true)
    ∙ sym (ap (λ (ts : List SeenTable). c.loop-table.sources.items ++ map source (filter test ts)) c.in-Some.ensures.steps)
    ∙ c.loop-table.invariant

pub loop-table-preserved : goal.loop-table-preserved
loop-table-preserved c =
    let test = λ (t : SeenTable). among c.args.ids.now.keys t.id in
    let left : List SeenTable = c.next.new.self in
    leaves_out test source c.loop-table.sources.items c.in-Some.table.now left (sym (ap (among c.args.ids.now.keys) c.id.ensures) ∙ sym c.has_id.ensures ∙ c.if-has_id.false)
    ∙ sym (ap (λ (ts : List SeenTable). c.loop-table.sources.items ++ map source (filter test ts)) c.in-Some.ensures.steps)
    ∙ c.loop-table.invariant

pub returns : goal.returns
returns c =
    sym (append-nil c.loop-table.sources.items)
    ∙ sym (ap (λ (ts : List SeenTable). c.loop-table.sources.items ++ map source (filter (λ t. among c.args.ids.now.keys t.id) ts)) c.in-None.ensures.steps.0)
    ∙ c.loop-table.invariant
