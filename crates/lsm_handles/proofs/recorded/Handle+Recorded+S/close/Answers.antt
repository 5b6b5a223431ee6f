-- What is given out is of the tree that the lock guards.
use Rattle.std.proofs.Common.{◌≡◌, sym}
use Rattle.lsm_versions.specs.Levels.{placed_of}
use Rattle.lsm_handles.proofs.Answered.{if_both}
use Rattle.lsm_handles.proofs.recorded.Handle+Recorded+S.close.Goals as goal

pub returns-clause-tree : goal.returns-clause-tree
returns-clause-tree g c =
    let t = c.deref-tree.result.now in
    if_both c.close.result (λ x. x.journal.items ≡ t.journal) (λ x. placed_of x.opened.levels ≡ t.opened) _
    (λ x journal opened. (t, (sym journal, sym opened), c.facts.ensures))
    c.close.ensures.journal c.close.ensures.opened
