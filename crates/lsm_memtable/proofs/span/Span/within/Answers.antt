use Rattle.std.proofs.Common.{◌∙◌, ap, arith}
use Rattle.lsm_below.specs.Lookups.{within}
use Rattle.lsm_memtable.proofs.Spans.{cut_again, places_of}
use Rattle.lsm_memtable.proofs.span.Span.within.Goals as goal

pub returns : goal.returns
returns c =
    let s = c.self.inside in
    let bs = s.blocks.now.items in
    let low = c.args.bounds.now.0 in
    let high = c.args.bounds.now.1 in
    let places = places_of bs s.from.block s.from.at s.to.block s.to.at (omega arith) c.self.invariant.1 in
    cut_again c.entries_are_parted.ensures bs low high s.from.block s.from.at s.to.block s.to.at c.lower_place.result.block c.lower_place.result.at c.upper_place.result.block c.upper_place.result.at c.later-from.result.block c.later-from.result.at c.earlier-to.result.block c.earlier-to.result.at
    places.0 places.1 c.lower_place.ensures c.upper_place.ensures c.later-from.ensures.spot c.earlier-to.ensures.spot
    ∙ ap (λ l. within low high l) c.self.view_is
