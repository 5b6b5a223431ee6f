use Rattle.lsm_state.proofs.tree.TreeState.begin_move.Goals as goal

pub returns-clause-upholds : goal.returns-clause-upholds
returns-clause-upholds g c tells = record { files = λ stored. c.settle.ensures.upholds tells (c.in-Ok.ensures.on_disk tells stored) stored; passes = c.settle.ensures.passes tells }
