-- The options are those of the tree on which the compaction begins.
use Rattle.lsm_handles.proofs.logged.compaction.Handle+Logged+S.begin_at.Goals as goal

pub returns : goal.returns
returns g c =
    let told = c.begin_compaction-told in
    let asks = rw (c.options_at-options.ensures, c.tree.ensures) at told.ensures.asks in
    (c.deref_mut-tree.result.now, told.new.self, (asks, told.ensures.upholds, told.ensures.files), c.facts.ensures, c.facts-2.ensures)
