use Rattle.std.proofs.Common.{◌≡◌, ◌∷◌, [], refl, ap, ◌∙◌, sym, subst, false, ◌↔◌, IsErrOf, OnOk, rules}
use Rattle.lsm_below.specs.Entries.{plain}
use Rattle.lsm_below.specs.declared.error.Error.TheVariants.{OutOfOrder}
use Rattle.lsm_model.specs.Views.{held}
use Rattle.lsm_model.specs.declared.journal.JournalEntry.TheVariants.{Write}
use Rattle.lsm_state.specs.Calls.{Appends}
use Rattle.lsm_versions.specs.Levels.{placed_of}
use Rattle.lsm_recorded.specs.Marks.{mark_of}
use Rattle.lsm_recorded.specs.Order.{keeps_order}
use Rattle.lsm_recorded.specs.Passes.{Notes}
use Rattle.lsm_recorded.specs.Recorded.{OwnOr, StaysTo}
use Rattle.lsm_recorded.proofs.MarksLemmas.{order_marked}
use Rattle.lsm_recorded.proofs.RecordedLemmas.{append_any, append_any_spares, plain-plain}
use Rattle.lsm_recorded.proofs.recorded.Recorded.append_entry.Goals as goal

pub invariant_of-self : goal.invariant_of-self
invariant_of-self g c =
    let i = c.self.inside in
    let a = c.append_marked.ensures in
    let is = ap plain c.into_plain.ensures ∙ plain-plain c.args.entry ∙ sym c.into_plain.ensures in
    let noted = subst (λ e. OnOk c.append_marked.result (Notes (Write e ∷ []) i.journal.items c.append_marked.new.journal.items c.pass.inside.entries.items c.append_marked.new.pass.items)) is a.noted in
    append_any (placed_of i.opened.levels) i.least c.reads_are_sound.ensures c.append_marked.result i.core c.append_marked.new.core i.marks c.append_marked.new.marks i.floor i.journal.items c.append_marked.new.journal.items c.pass.inside.entries.items c.append_marked.new.pass.items c.into_plain.result is c.self.invariant a.out_of_order a.core a.marks a.unmarked noted a.err

pub returns : goal.returns
returns g c =
    let i = c.self.inside in
    let a = c.append_marked.ensures in
    let r = c.append_marked.result in
    let opened = placed_of i.opened.levels in
    let same = ap plain c.into_plain.ensures ∙ plain-plain c.args.entry in
    let told = order_marked (held opened) i.journal.items (mark_of i.marks) i.floor i.core.core.seqno c.into_plain.result c.self.invariant.noted c.self.invariant.floored ∙ ap (keeps_order (held opened) i.journal.items i.core.core.seqno) c.into_plain.ensures in
    let spares = append_any_spares opened i.least c.reads_are_sound.ensures r i.core.core c.append_marked.new.core.core i.marks i.floor i.journal.items c.into_plain.result (same ∙ sym c.into_plain.ensures) c.self.invariant a.out_of_order a.core in
    rw (← c.self.view_is, ← c.pass.view_is) (record {
      out_of_order = subst (λ b. IsErrOf r OutOfOrder ↔ (b ≡ false)) told a.out_of_order;
      core = subst (λ e. OwnOr r (Appends e r i.core.core c.append_marked.new.core.core)) same a.core;
      noted = subst (λ e. OnOk r (Notes (Write e ∷ []) i.journal.items c.append_marked.new.journal.items c.pass.inside.entries.items c.append_marked.new.pass.items)) same a.noted;
      views = subst (λ e. OnOk r (StaysTo e.key.seqno i.core.core c.append_marked.new.core.core)) c.into_plain.ensures spares;
      store = a.store;
      opened = refl;
      err = search rules;
    })
