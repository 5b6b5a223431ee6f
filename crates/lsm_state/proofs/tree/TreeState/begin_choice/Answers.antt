use Rattle.lsm_state.proofs.tree.TreeState.begin_choice.Goals as goal

pub returns-clause-deeds : goal.returns-clause-deeds
returns-clause-deeds g c =
    let o = c.args.options in
    c.compactions_are_deeds.ensures.choices c.args.choice o c.begin_checked.result c.args.self.now.core c.begin_checked.new.self.core c.facts.ensures c.begin_checked.ensures.begins
