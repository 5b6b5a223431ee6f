use Rattle.std.proofs.Common.{◌∙◌, ap, sym, subst}
use Rattle.lsm_state.specs.Core.{Core}
use Rattle.lsm_state.specs.Refusals.{batch_refusal}
use Rattle.lsm_model.specs.Ops.{op_entries}
use Rattle.lsm_state.specs.Kept.{KeepsIds}
use Rattle.lsm_state.proofs.Fitting.{batch_fits}
use Rattle.lsm_state.proofs.Kept.{kept_put_all}
use Rattle.lsm_state.proofs.Steps.{batch_written}
use Rattle.lsm_state.proofs.tree.TreeState.write.Goals as goal

pub put_batch-requires : goal.put_batch-requires
put_batch-requires g c = batch_fits c.get-number.result c.args.ops.items (ap (λ ops. batch_refusal c.get-number.result ops) (sym c.deref.ensures.value) ∙ c.in_ok-check_batch.ensures.ok)

pub invariant_of-self-2 : goal.invariant_of-self-2
invariant_of-self-2 g c =
    let i = c.self.inside in
    (subst (λ ts. KeepsIds ts i.history i.next_memtable) (sym c.in_ok-put_batch.ensures.ok) (kept_put_all (op_entries c.get-number.result c.args.ops.items) i.memtables i.history i.next_memtable c.self.invariant.0), c.self.invariant.1)

pub returns-clause-writes : goal.returns-clause-writes
returns-clause-writes g c =
    let i = c.self.inside in
    let old : Core = record { config = i.config; memtables = i.memtables; history = i.history; next_memtable = i.next_memtable; next_table = i.next_table; next_job = i.next_job; moment = i.moment; seqno = i.seqno; visible_seqno = i.visible_seqno; flush = i.flush; lost = i.lost; merges = i.merges } in
    rw (← c.self.view_is) (batch_written c.args.ops.items old c.get-number.result c.put_batch.new.memtables c.set.new.self c.fetch_max.new.self c.self.invariant.0.active c.get-number.ensures (ap (λ ops. batch_refusal c.get-number.result ops) (sym c.deref.ensures.value) ∙ c.in_ok-check_batch.ensures.ok) c.in_ok-put_batch.ensures.ok c.set.ensures c.fetch_max.ensures)
