use Rattle.std.proofs.Common.{[], subst}
use Rattle.std.proofs.lemmas.List.{map-id}
use Rattle.lsm_iter.specs.Reads.{parts_at}
use Rattle.lsm_iter.specs.Left.{copied_within}
use Rattle.lsm_iter.specs.Puts.{PutsCursors}
use Rattle.lsm_iter.proofs.Puts.{readers_show}
use Rattle.lsm_iter.proofs.tree_iter.TreeIter.create_range.Goals as goal

pub returns : goal.returns
returns c =
    let low = c.args.bounds.now.0 in
    let high = c.args.bounds.now.1 in
    let parts = parts_at c.args.snapshot c.args.state.now in
    let owned = copied_within low high c.args.snapshot c.args.state.now in
    let cursors = c.in_ok-readers.field-0.items in
    let puts : PutsCursors low high parts owned [] cursors = subst (PutsCursors low high parts owned []) (map-id cursors) c.in_ok-readers.ensures in
    let shows = readers_show c.entries_are_ordered.ensures c.merges_by_key.ensures c.maps_are_read.ensures low high parts owned cursors puts in
    record { shows = shows.0; bytes = shows.1; held = shows.2; memory = tt }
