use Rattle.std.proofs.Common.{◌≢◌, [], ◌-◌, take, set, ◌∙◌, sym, ap, rules}
use Rattle.lsm_iter.proofs.OfParts.{last_of, last_skipped, last_full, last_gone}
use Rattle.lsm_iter.proofs.parts.skip_back.Goals as goal

pub returns-then-is_over : goal.returns-then-is_over
returns-then-is_over g c =
    let n = c.len-last.result - 1 in
    let items = c.args.parts.now.items in
    let one = last_of items c.len-last.result c.args.parts.now.len c.args.parts.now.ok.0 c.len-last.ensures (sym c.is_empty.ensures ∙ c.if-is_empty.false) in
    let gone = last_gone g.P.Part.left items n c.index_mut.result.now one c.index_mut.ensures.value c.requires c.skip_end.new.self c.index.result.now c.pop_back.new.self.items
    c.skip_end.ensures c.index.ensures (c.is_over.ensures.0 c.if-is_over.true) (c.pop_back.ensures.rest ∙ ap (λ k. take (k - 1) (set items n c.skip_end.new.self)) (sym c.len-last.ensures)) in
    record { takes = gone.0; full = gone.1 }

pub returns-else-is_over : goal.returns-else-is_over
returns-else-is_over g c =
    let n = c.len-last.result - 1 in
    let items = c.args.parts.now.items in
    let one = last_of items c.len-last.result c.args.parts.now.len c.args.parts.now.ok.0 c.len-last.ensures (sym c.is_empty.ensures ∙ c.if-is_empty.false) in
    let some : g.P.Part.left c.skip_end.new.self ≢ [] = λ none. search rules in
    record {
      takes = last_skipped g.P.Part.left items n c.index_mut.result.now one c.index_mut.ensures.value c.requires c.skip_end.new.self c.skip_end.ensures;
      full = last_full g.P.Part.left items n c.index_mut.result.now one c.index_mut.ensures.value c.requires c.skip_end.new.self some;
    }
