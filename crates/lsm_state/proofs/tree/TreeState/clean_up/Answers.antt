use Rattle.lsm_commit.specs.Causes.{HasCause}
use Rattle.lsm_state.proofs.Causing.{unclean}
use Rattle.std.proofs.Common.{◌≡◌, ◌≤◌, None, ap, sym, subst, ◌∙◌, refl, false}
use Rattle.lsm_parts.specs.Held.{HasFirst}
use Rattle.lsm_state.specs.Kept.{KeepsIds, least_named}
use Rattle.lsm_state.specs.Core.{Core}
use Rattle.lsm_state.specs.Commits.{Upholds}
use Rattle.lsm_parts.specs.Held.{from_id}
use Rattle.lsm_state.proofs.CleaningUp.{active_over, ids_cleaned, tables_cleaned, cleaned_upholds}
use Rattle.lsm_state.proofs.tree.TreeState.clean_up.Goals as goal

pub forget_before-requires : goal.forget_before-requires
forget_before-requires g c =
    let i = c.self.inside in
    let m = c.maintenance-maintained in
    subst (λ n. HasFirst i.memtables (λ t. n ≤ t.id)) (sym (c.oldest_memtable-oldest.ensures ∙ ap least_named c.oldest_version.ensures)) (active_over c.args.watermark m.result i.history m.new.self m.ensures.forgets i.memtables i.next_memtable c.self.invariant.0)

pub invariant_of-self : goal.invariant_of-self
invariant_of-self g c =
    let i = c.self.inside in
    let m = c.maintenance-maintained in (
      subst (λ ts. KeepsIds ts m.new.self i.next_memtable) (sym (c.forget_before.ensures ∙ ap (λ n. from_id n i.memtables) (c.oldest_memtable-oldest.ensures ∙ ap least_named c.oldest_version.ensures)))
          (ids_cleaned c.args.watermark m.result i.history m.new.self m.ensures.forgets i.memtables i.next_memtable c.self.invariant.0),
      tables_cleaned c.args.watermark m.result i.history m.new.self m.ensures.forgets i.flush i.next_table c.self.invariant.1,
    )

pub returns-clause-upholds : goal.returns-clause-upholds
returns-clause-upholds g c tells certain =
    let w = g.S.Store.world in
    let i = c.self.inside in
    let m = c.maintenance-maintained in
    let old : Core = record { config = i.config; memtables = i.memtables; history = i.history; next_memtable = i.next_memtable; next_table = i.next_table; next_job = i.next_job; moment = i.moment; seqno = i.seqno; visible_seqno = i.visible_seqno; flush = i.flush; lost = i.lost; merges = i.merges } in
    let new : Core = record old { memtables = c.forget_before.new.self; history = m.new.self } in
    subst (λ t. Upholds (w t.store) (w m.new.store) t.core new) c.self.view_is
    (record { files = cleaned_upholds (w i.store) (w m.new.store) old new m.ensures.forgets.latest refl refl (m.ensures.stored tells) (subst (λ t. t.core.lost ≡ None) (sym c.self.view_is) certain); passes = m.ensures.passes tells })

pub returns-clause-causes : goal.returns-clause-causes
returns-clause-causes g c =
    let w = g.S.Store.world in
    let m = c.maintenance-maintained in
    subst (λ t. HasCause (c.is_ok.result ≡ false) (w t.store) (w m.new.store)) c.self.view_is (unclean (w c.self.inside.store) (w m.new.store) m.result c.is_ok.result c.is_ok.ensures.value m.ensures.only m.ensures.counts)
