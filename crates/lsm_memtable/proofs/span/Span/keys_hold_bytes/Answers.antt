use Rattle.std.proofs.Common.{drop, subst, ◌-◌}
use Rattle.std.specs.List.{All}
use Rattle.std.proofs.lemmas.List.Elements.{All-take, All-drop}
use Rattle.lsm_below.specs.Entries.{HasBytes}
use Rattle.lsm_memtable.specs.Blocks.{joined, spot}
use Rattle.lsm_memtable.proofs.span.Span.keys_hold_bytes.Goals as goal

pub returns : goal.returns
returns c =
    let s = c.self.inside in
    let bs = s.blocks.now.items in
    let start = spot bs s.from.block s.from.at in
    subst (All HasBytes) c.self.view_is (All-take HasBytes (spot bs s.to.block s.to.at - start) (drop start (joined bs)) (All-drop HasBytes start (joined bs) c.self.invariant.2))
