use Rattle.std.proofs.Common.{refl, rules}
use Rattle.lsm_state.specs.Cleaning.{none_drawn}
use Rattle.lsm_state.proofs.tree.TreeState.follow.Goals as goal

pub returns-in-Err-clause-files : goal.returns-in-Err-clause-files
returns-in-Err-clause-files g c =
    let w = g.S.Store.world in
    let now = c.args.self.now in
    record {
      causes = search rules;
      gone = search rules;
      done = search rules;
      rests = tt;
      refused = λ tells small known before. none_drawn now.core.next_table now.core.next_table (w now.store) (w now.store) refl;
      no_call = search rules;
    }
