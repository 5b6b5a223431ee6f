use Rattle.std.proofs.Common.{◌≢◌, ◌<◌, [], length, arith, rules}
use Rattle.lsm_iter.proofs.OfParts.{first_skipped, first_full, first_gone}
use Rattle.lsm_iter.proofs.parts.skip_front.Goals as goal

pub returns-then-is_over : goal.returns-then-is_over
returns-then-is_over g c =
    let items = c.args.parts.now.items in
    let some : 0 < length items = search (rules, arith) in
    let gone = first_gone g.P.Part.left items c.index_mut.result.now c.skip_end.new.self c.index.result.now c.pop_front.new.self.items some c.index_mut.ensures.value c.requires
    c.skip_end.ensures c.index.ensures (c.is_over.ensures.0 c.if-is_over.true) c.pop_front.ensures.rest in
    record { takes = gone.0; full = gone.1 }

pub returns-else-is_over : goal.returns-else-is_over
returns-else-is_over g c =
    let items = c.args.parts.now.items in
    let some : 0 < length items = search (rules, arith) in
    let has : g.P.Part.left c.skip_end.new.self ≢ [] = λ none. search rules in
    record {
      takes = first_skipped g.P.Part.left items c.index_mut.result.now c.skip_end.new.self some c.index_mut.ensures.value c.requires c.skip_end.ensures;
      full = first_full g.P.Part.left items c.skip_end.new.self c.requires has;
    }
