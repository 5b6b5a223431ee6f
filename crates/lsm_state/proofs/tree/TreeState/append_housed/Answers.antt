use Rattle.std.proofs.Common.{sym, ◌∙◌, subst}
use Rattle.lsm_state.specs.Core.{Core}
use Rattle.lsm_state.specs.Calls.{Appends}
use Rattle.lsm_state.proofs.Steps.{appended, with_memtables}
use Rattle.lsm_state.proofs.tree.TreeState.append_housed.Goals as goal

pub returns-clause-appends : goal.returns-clause-appends
returns-clause-appends g c =
    let i = c.self.inside in
    let old : Core = record { config = i.config; memtables = i.memtables; history = i.history; next_memtable = i.next_memtable; next_table = i.next_table; next_job = i.next_job; moment = i.moment; seqno = i.seqno; visible_seqno = i.visible_seqno; flush = i.flush; lost = i.lost; merges = i.merges } in
    let e = c.into_plain-entry.result in
    let done = appended e c.insert_housed.result old c.insert_housed.new.self c.self.invariant.0.active (sym c.refusal_of.ensures ∙ c.in_default.is) c.insert_housed.ensures.sizes c.insert_housed.ensures.ok c.insert_housed.ensures.err c.insert_housed.ensures.memory in
    rw (← c.self.view_is) (subst (λ x. Appends x c.insert_housed.result old (with_memtables old c.insert_housed.new.self)) c.into_plain-entry.ensures done)
