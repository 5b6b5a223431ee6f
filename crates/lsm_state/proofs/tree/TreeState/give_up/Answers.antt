use Rattle.lsm_commit.specs.Causes.{causes_less}
use Rattle.lsm_state.proofs.Causing.{removes_tables}
use Rattle.lsm_state.proofs.tree.TreeState.give_up.Goals as goal

pub returns-clause-causes : goal.returns-clause-causes
returns-clause-causes g c =
    let w = g.S.Store.world in
    causes_less _ ⊥ (w c.args.self.now.store) (w c.remove_gone.new.self.store) c.remove_gone.ensures.causes (λ none. absurd none)

pub returns-clause-gone : goal.returns-clause-gone
returns-clause-gone g c tells =
    let w = g.S.Store.world in
    let did = c.remove_gone.ensures in
    removes_tables c.args.ids.now.keys (w c.args.self.now.store) (w c.remove_gone.new.self.store) c.remove_gone.result (did.gone tells) did.only did.causes
