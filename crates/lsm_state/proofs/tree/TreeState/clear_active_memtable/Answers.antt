use Rattle.std.proofs.Common.{◌+◌, ◌≤◌, ◌∷◌, sym, subst, ap, ◌∙◌}
use Rattle.lsm_memtable.specs.Memtables.{new_memtable}
use Rattle.lsm_parts.specs.Held.{HasFirst}
use Rattle.lsm_state.specs.Kept.{least_named}
use Rattle.lsm_parts.specs.Held.{from_id}
use Rattle.lsm_state.specs.Cleaning.{oldest_named}
use Rattle.lsm_state.specs.Clearing.{flushed_only}
use Rattle.lsm_state.proofs.CleaningUp.{active_first, ids_named}
use Rattle.lsm_state.proofs.Clears.{ids_forgotten, tables_forgotten}
use Rattle.lsm_state.proofs.tree.TreeState.clear_active_memtable.Goals as goal

pub forget_before-requires : goal.forget_before-requires
forget_before-requires g c =
    let i = c.self.inside in
    let n = i.next_memtable in
    let history = c.replace_latest_version.ensures ∙ ap (λ sv. record { latest = sv; older = i.history.older }) (c.in_ok-next.ensures.ok ∙ ap (λ t. (flushed_only c.get-id.result t.core.history).latest) (sym c.self.view_is)) ∙ ap (λ m. flushed_only m i.history) c.get-id.ensures in
    let memtables = c.in_ok-rotate.ensures.ok ∙ ap (λ m. new_memtable m ∷ i.memtables) c.get-id.ensures in
    let oldest = c.oldest_memtable-oldest.ensures ∙ ap least_named c.oldest_version.ensures ∙ ap oldest_named history in
    let first = active_first (new_memtable n ∷ i.memtables) (flushed_only n i.history) (n + 1) (ids_forgotten i.memtables i.history n c.self.invariant.0) in
    subst (λ ts. HasFirst ts (λ t. c.oldest_memtable-oldest.result ≤ t.id)) (sym memtables) (subst (λ m. HasFirst (new_memtable n ∷ i.memtables) (λ t. m ≤ t.id)) (sym oldest) first)

pub invariant_of-self-2 : goal.invariant_of-self-2
invariant_of-self-2 g c =
    let i = c.self.inside in
    let n = i.next_memtable in
    let history = c.replace_latest_version.ensures ∙ ap (λ sv. record { latest = sv; older = i.history.older }) (c.in_ok-next.ensures.ok ∙ ap (λ t. (flushed_only c.get-id.result t.core.history).latest) (sym c.self.view_is)) ∙ ap (λ m. flushed_only m i.history) c.get-id.ensures in
    let memtables = c.in_ok-rotate.ensures.ok ∙ ap (λ m. new_memtable m ∷ i.memtables) c.get-id.ensures in
    let oldest = c.oldest_memtable-oldest.ensures ∙ ap least_named c.oldest_version.ensures ∙ ap oldest_named history in
    let left = c.forget_before.ensures ∙ ap (λ m. from_id m c.rotate.new.self) oldest ∙ ap (from_id (oldest_named (flushed_only n i.history))) memtables in
    let next = c.set.ensures ∙ ap (λ m. m + 1) c.get-id.ensures in
    rw (left, history, next) (ids_named (new_memtable n ∷ i.memtables) (flushed_only n i.history) (n + 1) (ids_forgotten i.memtables i.history n c.self.invariant.0), tables_forgotten i.flush i.history i.next_table n c.self.invariant.1)
