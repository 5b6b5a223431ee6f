use Rattle.std.proofs.Common.{subst}
use Rattle.lsm_state.specs.Compactions.{IsDroppedFrom}
use Rattle.lsm_state.proofs.Choices.{dropped_settles, dropped_on_disk}
use Rattle.lsm_state.proofs.tree.TreeState.version_dropped.Goals as goal

pub returns-clause-settles : goal.returns-clause-settles
returns-clause-settles g c =
    let ids = c.args.ids.now.keys in
    let v = c.in_ok-version in
    let made = subst (λ u. IsDroppedFrom ids u v.version) c.current_version-latest.ensures (record { next = v.ensures.ok; placed = v.ensures.placed; laid = v.ensures.laid; own_ids = c.facts-3.ensures.is.own_ids }) in
    dropped_settles c.args.self.now.core c.facts.ensures c.requires.certain c.changes_keep_tables.ensures ids c.requires.there v.version made

pub returns-clause-on_disk : goal.returns-clause-on_disk
returns-clause-on_disk g c tells =
    let ids = c.args.ids.now.keys in
    let v = c.in_ok-version in
    let made = subst (λ u. IsDroppedFrom ids u v.version) c.current_version-latest.ensures (record { next = v.ensures.ok; placed = v.ensures.placed; laid = v.ensures.laid; own_ids = c.facts-3.ensures.is.own_ids }) in
    dropped_on_disk c.args.self.now.core c.facts.ensures c.requires.certain c.changes_keep_tables.ensures ids c.requires.there v.version made (g.S.Store.world c.args.self.now.store)
