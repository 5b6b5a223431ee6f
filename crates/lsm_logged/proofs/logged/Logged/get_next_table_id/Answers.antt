use Rattle.std.proofs.Common.{ap}
use Rattle.std.proofs.lemmas.Result.{on_err_weaker}
use Rattle.lsm_state.specs.Core.{Seen}
use Rattle.lsm_logged.proofs.NoActs.{drawn_not}
use Rattle.lsm_logged.proofs.logged.Logged.get_next_table_id.Goals as goal

pub returns-clause-acts : goal.returns-clause-acts
returns-clause-acts g c tells =
    drawn_not g.S.Store.world c.self.inside.tree c.get_next_table_id.new.self c.self.inside.numbers.items c.self.inside.doubted c.args.self.now c.self.view_is _ c.store.ensures (c.crashes_leave_versions.ensures tells) c.get_next_table_id.ensures.store c.get_next_table_id.result c.get_next_table_id.ensures.used
    (on_err_weaker c.get_next_table_id.result (λ same. ap (λ (t : Seen g.row.S.Denot). t.core) same) c.get_next_table_id.ensures.err)
