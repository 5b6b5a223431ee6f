use Rattle.lsm_state.specs.WholeCompactions.{as_begun}
use Rattle.lsm_state.proofs.OwnInputs.{compaction_here}
use Rattle.lsm_state.proofs.Wholes.{whole_upholds}
use Rattle.lsm_state.proofs.Files.{whole_files}
use Rattle.lsm_state.proofs.tree.TreeState.compact_with.Goals as goal

pub returns-clause-upholds : goal.returns-clause-upholds
returns-clause-upholds g c tells =
    let w = g.S.Store.world in
    let old = c.args.self.now in
    let mid = c.begin_with-begun.new.self in
    let new = c.follow.new.self in
    whole_upholds (w old.store) (w mid.store) (w new.store) _ _ c.args.options c.begin_with-begun.result (as_begun c.follow.result) old.core mid.core new.core c.begin_with-begun.ensures.begins c.follow.ensures.follows (c.begin_with-begun.ensures.upholds tells) (c.follow.ensures.upholds tells)

pub returns-clause-files : goal.returns-clause-files
returns-clause-files g c =
    let begun = c.begin_with-begun in
    whole_files g.S.Store.tells g.S.Store.world _ _ c.args.options begun.result (as_begun c.follow.result) c.args.self.now begun.new.self c.follow.new.self begun.ensures.begins c.follow.ensures.follows begun.ensures.files c.follow.ensures.files

pub follow-requires : goal.follow-requires
follow-requires g c = compaction_here _ _ c.args.options c.begin_with-begun.result c.args.self.now.core c.begin_with-begun.new.self.core c.facts.ensures c.begin_with-begun.ensures.begins
