use Rattle.std.proofs.Common.{subst, ◌-◌}
use Rattle.lsm_below.specs.Entries.{entry_cmp}
use Rattle.lsm_below.specs.Sorted.{Rises}
use Rattle.lsm_memtable.specs.Blocks.{joined, spot}
use Rattle.lsm_memtable.proofs.Spans.{rises_part}
use Rattle.lsm_memtable.proofs.span.Span.facts.Goals as goal

pub returns : goal.returns
returns c =
    let s = c.self.inside in
    let bs = s.blocks.now.items in
    let start = spot bs s.from.block s.from.at in
    subst (Rises entry_cmp) c.self.view_is (rises_part (joined bs) (spot bs s.to.block s.to.at - start) start c.self.invariant.0.rises)
