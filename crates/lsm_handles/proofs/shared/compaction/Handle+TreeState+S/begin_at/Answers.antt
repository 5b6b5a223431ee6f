-- The options are those of the tree on which the compaction begins.
use Rattle.lsm_handles.proofs.shared.compaction.Handle+TreeState+S.begin_at.Goals as goal

pub returns : goal.returns
returns g c =
    let told = c.begin_compaction-told in
    let begins = rw c.options_at-options.ensures at told.ensures.begins in
    (c.deref_mut-tree.result.now, told.new.self, begins, told.ensures.upholds, told.ensures.files, c.facts.ensures, c.facts-2.ensures)
