use Rattle.std.proofs.Common.{◌≡◌, refl, subst, false, ◌↔◌, IsErrOf, rules}
use Rattle.lsm_below.specs.declared.error.Error.TheVariants.{OutOfOrder}
use Rattle.lsm_model.specs.Views.{held}
use Rattle.lsm_versions.specs.Levels.{placed_of}
use Rattle.lsm_recorded.specs.Marks.{mark_of}
use Rattle.lsm_recorded.proofs.BatchLemmas.{allowed_order}
use Rattle.lsm_recorded.proofs.RecordedLemmas.{batch_any, batch_any_spares}
use Rattle.lsm_recorded.proofs.recorded.Recorded.write.Goals as goal

pub invariant_of-self : goal.invariant_of-self
invariant_of-self g c =
    let i = c.self.inside in
    let a = c.write_marked.ensures in
    batch_any (placed_of i.opened.levels) i.least c.reads_are_sound.ensures c.write_marked.result i.core c.write_marked.new.core i.marks c.write_marked.new.marks i.floor i.journal.items c.write_marked.new.journal.items c.pass.inside.entries.items c.write_marked.new.pass.items c.args.ops.items c.self.invariant a.out_of_order a.core a.marks a.unmarked a.noted a.err

pub returns : goal.returns
returns g c =
    let i = c.self.inside in
    let a = c.write_marked.ensures in
    let r = c.write_marked.result in
    let opened = placed_of i.opened.levels in
    let told = allowed_order (held opened) i.journal.items i.core.core.seqno (mark_of i.marks) i.floor c.args.ops.items c.self.invariant.noted c.self.invariant.floored in
    rw (← c.self.view_is, ← c.pass.view_is) (record {
      out_of_order = subst (λ b. IsErrOf r OutOfOrder ↔ (b ≡ false)) told a.out_of_order;
      core = a.core;
      noted = a.noted;
      views = batch_any_spares opened i.least c.reads_are_sound.ensures r i.core.core c.write_marked.new.core.core i.marks i.floor i.journal.items c.args.ops.items c.self.invariant a.out_of_order a.core;
      store = a.store;
      opened = refl;
      err = search rules;
    })
