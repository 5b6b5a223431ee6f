use Rattle.std.proofs.Common.{sym, subst, rules}
use Rattle.lsm_compaction.specs.Merges.{SeenCompaction}
use Rattle.lsm_state.specs.Cleaning.{none_drawn}
use Rattle.lsm_state.specs.OwnInputs.{HasOwnInputs}
use Rattle.lsm_state.proofs.Wholes.{spending_draws}
use Rattle.lsm_state.proofs.tree.TreeState.complete.Goals as goal

pub finish_with-requires : goal.finish_with-requires
finish_with-requires g c own = subst (λ (job : SeenCompaction). HasOwnInputs job c.args.self.now.core) (sym c.in-Ok.ensures.job) c.requires

pub returns-in-Err-clause-files : goal.returns-in-Err-clause-files
returns-in-Err-clause-files g c =
    let w = g.S.Store.world in
    let old = c.args.self.now in
    let new = c.abandon_compaction.new.self in
    record {
      causes = search rules;
      gone = search rules;
      rests = tt;
      refused = λ tells small known before. none_drawn old.core.next_table new.core.next_table (w old.store) (w new.store) (spending_draws c.in-Err.job old.core new.core c.abandon_compaction.ensures.spends);
      no_call = search rules;
    }
