-- The tree whose counter is raised is the one that the lock guards.
use Rattle.std.proofs.Common.{◌≡◌, ℕ, max, refl, ap, ◌∙◌}
use Rattle.lsm_state.specs.Core.{Core}
use Rattle.lsm_handles.proofs.shared.Handle+TreeState+S.raise_visible.Goals as goal

pub returns : goal.returns
returns g c =
    let old = c.deref_mut-tree.result.now in
    let shows : ℕ → Core = λ n. record (old.core) { visible_seqno = n } in
    let raised : c.fetch_max-told.new.self ≡ max old.core.visible_seqno c.args.seqno = c.fetch_max-told.ensures ∙ ap (λ n. max n c.args.seqno) c.visible_seqno_mut.ensures.value in
    (old, record { store = old.store; core = shows c.fetch_max-told.new.self }, ap shows raised, refl, c.facts.ensures, c.facts-2.ensures)
