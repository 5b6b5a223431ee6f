use Rattle.std.proofs.Common.{subst}
use Rattle.lsm_versions.specs.Levels.{Moves}
use Rattle.lsm_state.specs.Compactions.{IsMovedTo}
use Rattle.lsm_state.proofs.Choices.{moved_settles, moved_on_disk}
use Rattle.lsm_state.proofs.tree.TreeState.version_moved.Goals as goal

pub returns-clause-settles : goal.returns-clause-settles
returns-clause-settles g c =
    let input = c.args.input.now in
    let v = c.in_ok-version in
    let moves = subst (λ n. Moves input.table_ids.keys n c.current_version-latest.result.now v.version) c.from-to.ensures v.ensures.ok in
    let made : IsMovedTo input c.args.self.now.core.history.latest.version v.version = record { moves = subst (λ u. Moves input.table_ids.keys input.dest_level u v.version) c.current_version-latest.ensures moves; allowed = c.requires.possible.1.allowed; laid = v.ensures.laid; own_ids = c.facts-3.ensures.is.own_ids } in
    moved_settles c.args.self.now.core c.facts.ensures c.requires.certain c.changes_keep_tables.ensures input c.requires.possible.0 v.version made

pub returns-clause-on_disk : goal.returns-clause-on_disk
returns-clause-on_disk g c tells =
    let input = c.args.input.now in
    let v = c.in_ok-version in
    let moves = subst (λ n. Moves input.table_ids.keys n c.current_version-latest.result.now v.version) c.from-to.ensures v.ensures.ok in
    let made : IsMovedTo input c.args.self.now.core.history.latest.version v.version = record { moves = subst (λ u. Moves input.table_ids.keys input.dest_level u v.version) c.current_version-latest.ensures moves; allowed = c.requires.possible.1.allowed; laid = v.ensures.laid; own_ids = c.facts-3.ensures.is.own_ids } in
    moved_on_disk c.args.self.now.core c.facts.ensures c.requires.certain c.changes_keep_tables.ensures input c.requires.possible.0 v.version made (g.S.Store.world c.args.self.now.store)
