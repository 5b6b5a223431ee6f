use Rattle.std.proofs.Common.{refl, sym, ap, subst}
use Rattle.lsm_below.specs.Optimizes.{tables_of}
use Rattle.lsm_checks.specs.Choices.{AreOneById}
use Rattle.lsm_state.specs.Commits.{Upholds}
use Rattle.lsm_state.specs.Compactions.{levels_of}
use Rattle.lsm_state.proofs.Merges.{spent_upholds, spent_stays}
use Rattle.lsm_state.proofs.Files.{spent_files}
use Rattle.lsm_state.proofs.tree.TreeState.finish_spent.Goals as goal

pub returns-then-is_uncertain-clause-upholds : goal.returns-then-is_uncertain-clause-upholds
returns-then-is_uncertain-clause-upholds g c tells =
    let w = g.S.Store.world in
    let old = c.args.self.now in
    let new = c.spend-open.new.self in
    subst (λ v. Upholds (w old.store) v old.core new.core) (sym (ap w c.spend-open.ensures.store)) (spent_upholds (w old.store) old.core new.core c.job.result.now.number c.spend-open.result c.spend-open.ensures.closed c.spend-open.ensures.other (c.is_upheld.ensures tells))

pub returns-clause-files : goal.returns-clause-files
returns-clause-files g c =
    let spend = c.spend-open in
    spent_files g.S.Store.tells g.S.Store.world c.finish_closed.result c.job.result.now.number spend.result c.args.self.now spend.new.self c.finish_closed.new.self spend.ensures.closed spend.ensures.other spend.ensures.store c.finish_closed.ensures.files

pub finish_closed-requires-clause-own : goal.finish_closed-requires-clause-own
finish_closed-requires-clause-own g c own =
    let levels = spent_stays levels_of c.args.self.now.core c.spend-open.new.self.core c.job.result.now.number c.spend-open.result refl c.spend-open.ensures.closed c.spend-open.ensures.other in
    subst (AreOneById (tables_of c.args.merged.now.job.inputs)) (sym levels) (c.requires.own own)
