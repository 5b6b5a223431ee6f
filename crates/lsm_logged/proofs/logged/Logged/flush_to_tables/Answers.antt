use Rattle.std.proofs.Common.{refl, rules}
use Rattle.lsm_logged.proofs.NoActs.{unsure_not, written_not}
use Rattle.lsm_state.specs.Cleaning.{none_drawn}
use Rattle.lsm_logged.proofs.logged.Logged.flush_to_tables.Goals as goal

pub returns-then-self-clause-acts : goal.returns-then-self-clause-acts
returns-then-self-clause-acts g c tells = unsure_not g.S.Store.world c.self.inside.tree c.self.inside.numbers.items c.self.inside.doubted c.args.self.now c.self.view_is (c.is_upheld.ensures tells)

pub returns-clause-acts : goal.returns-clause-acts
returns-clause-acts g c tells =
    written_not g.S.Store.world c.self.inside.tree c.flush_to_tables.new.self c.self.inside.numbers.items c.self.inside.doubted c.args.self.now c.self.view_is (c.flush_to_tables.ensures.upholds tells) c.args.job c.flush_to_tables.result c.flush_to_tables.ensures.writes

pub returns-then-self-clause-files : goal.returns-then-self-clause-files
returns-then-self-clause-files g c =
    record {
      causes = search rules;
      refused = λ tells small. none_drawn _ _ (g.S.Store.world c.args.self.now.store) (g.S.Store.world c.args.self.now.store) refl;
      no_call = search rules;
    }

pub returns-clause-files : goal.returns-clause-files
returns-clause-files g c = rw (← c.self.view_is) c.flush_to_tables.ensures.files
