use Rattle.std.proofs.Common.{◌≡◌, ◌∙◌, false, Err, sym, subst}
use Rattle.lsm_below.specs.declared.error.Error.TheVariants.{Unrecoverable}
use Rattle.lsm_commit.specs.Foreign.{Passes}
use Rattle.lsm_model.specs.Views.{HasDistinctIds}
use Rattle.lsm_state.specs.Core.{latest_of}
use Rattle.lsm_logged.specs.Keeping.{SeenLogged, is_unsure}
use Rattle.lsm_logged.specs.Writing.{WritesAct}
use Rattle.lsm_logged.proofs.Acted.{own_tables, write_acts, write_known, nothing_done}
use Rattle.lsm_logged.proofs.Seen.{logged_with}
use Rattle.lsm_logged.proofs.logged.Logged.write.Goals as goal

pub returns-clause-acts : goal.returns-clause-acts
returns-clause-acts g c tells =
    let w = g.S.Store.world in
    let old = c.args.self.now in
    let new = c.write_certain.new.self in
    let sure : is_unsure old ≡ false = sym c.is_uncertain.ensures ∙ c.if-is_uncertain.false in
    let distinct = subst (λ (t : SeenLogged g.row.S.Denot). HasDistinctIds (latest_of t.core).tables) c.self.view_is (own_tables c.flushes_are_deeds.ensures.spends c.self.inside.tree.core c.facts.ensures) in
    let rest = subst (λ (t : SeenLogged g.row.S.Denot). Passes (w t.store) (w t.store)) c.self.view_is (c.is_upheld.ensures tells).passes in
    write_acts c.plain_numbers_are_read.ensures (w old.store) (w new.store) c.args.ops.items old new sure c.write_certain.result c.write_certain.ensures.writes (c.write_certain.ensures.records tells) distinct (c.write_certain.ensures.upholds tells) rest

pub returns-then-is_uncertain-clause-acts : goal.returns-then-is_uncertain-clause-acts
returns-then-is_uncertain-clause-acts g c tells =
    let w = g.S.Store.world in
    let i = c.self.inside in
    let old = logged_with i.tree i.numbers.items i.doubted in
    subst (λ (t : SeenLogged g.row.S.Denot). WritesAct c.args.ops.items (Err Unrecoverable) (w t.store) (w t.store) t t) c.self.view_is (nothing_done (w old.store) c.args.ops.items old (c.is_upheld.ensures tells))

pub returns-clause-known : goal.returns-clause-known
returns-clause-known g c tells known =
    let w = g.S.Store.world in
    let old = c.args.self.now in
    let new = c.write_certain.new.self in
    let sure : is_unsure old ≡ false = sym c.is_uncertain.ensures ∙ c.if-is_uncertain.false in
    write_known c.plain_numbers_are_read.ensures (w old.store) (w new.store) c.args.ops.items old new sure c.write_certain.result c.write_certain.ensures.writes (c.write_certain.ensures.records tells) known
