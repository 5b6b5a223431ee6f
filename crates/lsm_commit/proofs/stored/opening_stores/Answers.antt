use Rattle.lsm_commit.proofs.Removals.{AreApart}
use Rattle.lsm_commit.proofs.Opened.{opening_stored}
use Rattle.lsm_commit.proofs.stored.opening_stores.Goals as goal

pub returns : goal.returns
returns g c = λ tells old new o ready opens.
    let w = g.S.Store.world in
    let n = c.names_are_apart.ensures in
    let keeps = c.ready_stores_keep_what_is_named.ensures in
    let apart : AreApart = record { versions = n.versions; table_no_version = n.table_no_version; version_not_current = n.version_not_current; no_older = n.no_older; version_kind = n.version_kind } in
    opening_stored apart n.current_kind c.no_version_begins_another.ensures c.named_files_stay.ensures (w old) (w new) o (keeps.good tells old ready) (λ id ls named. keeps.named tells old id ls ready named) opens
