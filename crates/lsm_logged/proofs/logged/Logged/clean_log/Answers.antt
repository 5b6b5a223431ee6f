use Rattle.lsm_logged.proofs.Removals.{removed_on}
use Rattle.lsm_logged.specs.Removing.{log_from_of}
use Rattle.lsm_logged.proofs.logged.Logged.clean_log.Goals as goal

pub returns-clause-passes : goal.returns-clause-passes
returns-clause-passes g c tells =
    let w = g.S.Store.world in
    let old = c.args.self.now in
    removed_on (log_from_of old.core) old.numbers (w old.store) (w c.remove_passed.new.self.store) c.remove_passed.result (c.remove_passed.ensures.removes tells)

pub returns-clause-others : goal.returns-clause-others
returns-clause-others g c tells = (c.remove_passed.ensures.removes tells).others
