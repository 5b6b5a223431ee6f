use Rattle.std.proofs.Common.{◌≡◌, ◌⊎◌, ap, sym, subst, ◌∙◌, refl, rules, ⊎_elim, inl, inr, Option, None, Err, IsSome}
use Rattle.lsm_below.specs.declared.error.Error.{Error}
use Rattle.lsm_below.specs.declared.error.Error.TheVariants.{OutOfMemory, Store, CommitUnknown}
use Rattle.lsm_commit.specs.Stored.{CountsFaults}
use Rattle.lsm_state.specs.Core.{Core}
use Rattle.lsm_state.specs.Commits.{UpholdsFiles}
use Rattle.lsm_model.specs.Ops.{op_entries}
use Rattle.lsm_state.specs.Kept.{KeepsIds}
use Rattle.lsm_state.specs.Refusals.{batch_refusal}
use Rattle.lsm_state.specs.Recording.{WritesBehindRecord, RecordsBatch}
use Rattle.lsm_state.proofs.Kept.{kept_put_all}
use Rattle.lsm_state.proofs.Upholding.{upheld_at}
use Rattle.lsm_state.proofs.BehindRecords.{Why, put_upholds, recorded, refused, counts_err, batch_refused}
use Rattle.lsm_state.proofs.tree.TreeState.write_behind_record.Goals as goal

pub returns-in_err-content-clause-upholds : goal.returns-in_err-content-clause-upholds
returns-in_err-content-clause-upholds g c tells =
    (upheld_at g.S.Store.world c.args.self.now c.self.inside.store (ap (λ t. t.store) c.self.view_is) (c.crashes_leave_versions.ensures tells)).files

pub invariant_of-self : goal.invariant_of-self
invariant_of-self g c =
    let i = c.self.inside in
    (subst (λ ts. KeepsIds ts i.history i.next_memtable) (sym c.in-Ok.ensures.ok) (kept_put_all (op_entries c.get-number.result c.args.ops.items) i.memtables i.history i.next_memtable c.self.invariant.0), c.self.invariant.1)

pub returns-in-Ok-clause-writes : goal.returns-in-Ok-clause-writes
returns-in-Ok-clause-writes g c =
    let i = c.self.inside in
    let old : Core = record { config = i.config; memtables = i.memtables; history = i.history; next_memtable = i.next_memtable; next_table = i.next_table; next_job = i.next_job; moment = i.moment; seqno = i.seqno; visible_seqno = i.visible_seqno; flush = i.flush; lost = i.lost; merges = i.merges } in
    rw (← c.self.view_is) (recorded c.args.ops.items old c.get-number.result c.set.new.self c.fetch_max.new.self c.put_behind_record-put.new.memtables c.self.invariant.0.active c.get-number.ensures
    (ap (λ ops. batch_refusal c.get-number.result ops) (sym c.deref.ensures.value) ∙ c.in_ok-content.ensures.accepted) c.in-Ok.ensures.ok c.set.ensures c.fetch_max.ensures)

pub returns-in-Ok-clause-upholds : goal.returns-in-Ok-clause-upholds
returns-in-Ok-clause-upholds g c tells =
    let w = g.S.Store.world in
    let i = c.self.inside in
    let old : Core = record { config = i.config; memtables = i.memtables; history = i.history; next_memtable = i.next_memtable; next_table = i.next_table; next_job = i.next_job; moment = i.moment; seqno = i.seqno; visible_seqno = i.visible_seqno; flush = i.flush; lost = i.lost; merges = i.merges } in
    let new : Core = record old { memtables = c.put_behind_record-put.new.memtables; seqno = c.set.new.self; visible_seqno = c.fetch_max.new.self } in
    subst (λ t. UpholdsFiles (w t.store) (w c.put_behind_record-put.new.store) t.core new) c.self.view_is (put_upholds (w i.store) (w c.put_behind_record-put.new.store) old new (c.in-Ok.ensures.records tells).spares refl refl refl)

pub returns-in-Err-CommitUnknown-clause-upholds : goal.returns-in-Err-CommitUnknown-clause-upholds
returns-in-Err-CommitUnknown-clause-upholds g c tells =
    let w = g.S.Store.world in
    let i = c.self.inside in
    let old : Core = record { config = i.config; memtables = i.memtables; history = i.history; next_memtable = i.next_memtable; next_table = i.next_table; next_job = i.next_job; moment = i.moment; seqno = i.seqno; visible_seqno = i.visible_seqno; flush = i.flush; lost = i.lost; merges = i.merges } in
    let new : Core = record old { memtables = c.put_behind_record-put.new.memtables; seqno = c.set-in-Err-CommitUnknown.new.self } in
    subst (λ t. UpholdsFiles (w t.store) (w c.put_behind_record-put.new.store) t.core new) c.self.view_is (put_upholds (w i.store) (w c.put_behind_record-put.new.store) old new (c.in-Err-CommitUnknown.ensures.records tells).spares refl refl refl)

pub returns : goal.returns
returns g c =
    let w = g.S.Store.world in
    let i = c.self.inside in
    let e = c.in-Err.error in
    let w' = w c.put_behind_record-put.new.store in
    let old : Core = record { config = i.config; memtables = i.memtables; history = i.history; next_memtable = i.next_memtable; next_table = i.next_table; next_job = i.next_job; moment = i.moment; seqno = i.seqno; visible_seqno = i.visible_seqno; flush = i.flush; lost = i.lost; merges = i.merges } in
    let isnt : e ≡ CommitUnknown → ⊥ = search rules in
    let short : (e ≡ OutOfMemory) ⊎ (e ≡ Store) = ⊎_elim (λ m. inl m) (λ rest. ⊎_elim (λ s. inr s) (λ u. absurd (isnt u)) rest) c.in-Err.ensures.only in
    let free = ap (λ ops. batch_refusal c.get-number.result ops) (sym c.deref.ensures.value) ∙ c.in_ok-content.ensures.accepted in
    let why : Why c.args.ops.items old c.get-number.result e = inr (⊎_elim (λ m. inl m) (λ s. inr (s, free)) short) in
    let new : Core = record old { memtables = c.put_behind_record-put.new.memtables } in
    let same : new ≡ old = ap (λ ts. record old { memtables = ts }) c.in-Err.ensures.err in
    let writes : WritesBehindRecord c.args.ops.items (Err e) old new = subst (λ k. WritesBehindRecord c.args.ops.items (Err e) old k) (sym same) (refused c.args.ops.items old c.get-number.result e c.get-number.ensures isnt why) in
    record {
      writes = subst (λ t. WritesBehindRecord c.args.ops.items (Err e) t.core new) c.self.view_is writes;
      records = λ tells. subst (λ t. RecordsBatch t.core.seqno c.args.ops.items (w t.store) w' (Err e)) c.self.view_is
          (subst (λ n. RecordsBatch n c.args.ops.items (w i.store) w' (Err e)) c.get-number.ensures (batch_refused c.get-number.result c.deref-2.result.now c.args.ops.items (w i.store) w' e isnt short (c.in-Err.ensures.records tells)));
      no_call = λ some. let none : IsSome {T = Error} None = subst (λ (o : Option Error). IsSome o) (subst (λ t. batch_refusal t.core.seqno c.args.ops.items ≡ None) c.self.view_is (ap (λ m. batch_refusal m c.args.ops.items) (sym c.get-number.ensures) ∙ free)) some in absurd (cc none);
      counts = subst (λ t. CountsFaults (w t.store) w' (Err e)) c.self.view_is (counts_err (w i.store) w' e c.in-Err.ensures.counts);
      upholds = λ tells. subst (λ t. UpholdsFiles (w t.store) w' t.core new) c.self.view_is (put_upholds (w i.store) w' old new (c.in-Err.ensures.records tells).spares refl refl refl);
    }
