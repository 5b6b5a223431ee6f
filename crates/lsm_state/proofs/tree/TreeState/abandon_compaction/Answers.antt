use Rattle.std.proofs.Common.{subst, sym, ap}
use Rattle.lsm_state.specs.Commits.{Upholds}
use Rattle.lsm_state.proofs.Merges.{spent_upholds}
use Rattle.lsm_state.proofs.tree.TreeState.abandon_compaction.Goals as goal

pub returns-clause-upholds : goal.returns-clause-upholds
returns-clause-upholds g c tells =
    let w = g.S.Store.world in
    let old = c.args.self.now in
    let new = c.spend.new.self in
    subst (λ v. Upholds (w old.store) v old.core new.core) (sym (ap w c.spend.ensures.store)) (spent_upholds (w old.store) old.core new.core c.args.job.number c.spend.result c.spend.ensures.closed c.spend.ensures.other (c.is_upheld.ensures tells))
