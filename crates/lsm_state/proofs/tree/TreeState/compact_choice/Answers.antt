use Rattle.lsm_state.specs.WholeCompactions.{as_begun}
use Rattle.lsm_state.proofs.OwnInputs.{choice_here}
use Rattle.lsm_state.proofs.Wholes.{choice_upholds}
use Rattle.lsm_state.proofs.Files.{choice_files}
use Rattle.lsm_state.proofs.tree.TreeState.compact_choice.Goals as goal

pub returns-clause-upholds : goal.returns-clause-upholds
returns-clause-upholds g c tells =
    let w = g.S.Store.world in
    let old = c.args.self.now in
    let mid = c.begin_choice-begun.new.self in
    let new = c.follow.new.self in
    choice_upholds (w old.store) (w mid.store) (w new.store) c.args.choice c.args.options c.begin_choice-begun.result (as_begun c.follow.result) old.core mid.core new.core c.begin_choice-begun.ensures.begins c.follow.ensures.follows (c.begin_choice-begun.ensures.upholds tells) (c.follow.ensures.upholds tells)

pub returns-clause-files : goal.returns-clause-files
returns-clause-files g c =
    let begun = c.begin_choice-begun in
    choice_files g.S.Store.tells g.S.Store.world c.args.choice c.args.options begun.result (as_begun c.follow.result) c.args.self.now begun.new.self c.follow.new.self begun.ensures.begins c.follow.ensures.follows begun.ensures.files c.follow.ensures.files

pub follow-requires : goal.follow-requires
follow-requires g c = choice_here c.args.choice c.args.options c.begin_choice-begun.result c.args.self.now.core c.begin_choice-begun.new.self.core c.facts.ensures c.begin_choice-begun.ensures.begins
