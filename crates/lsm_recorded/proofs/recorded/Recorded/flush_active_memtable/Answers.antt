use Rattle.std.proofs.Common.{◌++◌, ap, ◌∙◌, subst}
use Rattle.lsm_versions.specs.Levels.{placed_of}
use Rattle.lsm_state.specs.WholeFlushes.{FlushesActive}
use Rattle.lsm_recorded.specs.Passes.{Notes}
use Rattle.lsm_recorded.specs.Recorded.{IsRecorded, Stays}
use Rattle.lsm_recorded.proofs.FlushingLemmas.{active_recorded, active_notes, active_does}
use Rattle.lsm_recorded.proofs.recorded.Recorded.flush_active_memtable.Given.{Over}
use Rattle.lsm_recorded.proofs.recorded.Recorded.flush_active_memtable.Goals as goal

-- what holds of it holds afterwards, and what snapshots see stays
module _ (g : Over) (c : goal.After-put_entries g) where
  kept : IsRecorded (placed_of c.self.inside.opened.levels) c.self.inside.least c.self.inside.marks c.put_entries.new.floor c.flush_active_noting-entries.new.tree.core c.put_entries.new.journal.items × Stays c.self.inside.core.core c.flush_active_noting-entries.new.tree.core
  kept =
      let i = c.self.inside in
      let flushed = c.flush_active_noting-entries in
      active_recorded (placed_of i.opened.levels) i.least i.marks c.reads_are_sound.ensures c.flushes_keep_reads.ensures i.floor c.put_entries.new.floor i.journal.items c.put_entries.new.journal.items flushed.result.1.items (c.put_entries.ensures.noted.behind ∙ ap (λ j. j ++ flushed.result.1.items) c.beside_copies-both.ensures.journal) c.put_entries.ensures.floor c.args.watermark flushed.result.0 i.core.core flushed.new.tree.core flushed.ensures.flushes c.self.invariant

pub invariant_of-self-2 : goal.invariant_of-self-2
invariant_of-self-2 g c = (kept g c).0

pub returns-clause-core : goal.returns-clause-core
returns-clause-core g c =
    let flushed = c.flush_active_noting-entries in
    subst (λ t. FlushesActive c.args.watermark flushed.result.0 t.tree.core flushed.new.tree.core) c.self.view_is
    (active_does c.args.watermark flushed.result.0 flushed.result.1.items c.self.inside.core.core flushed.new.tree.core flushed.ensures.flushes)

pub returns-clause-noted : goal.returns-clause-noted
returns-clause-noted g c =
    let i = c.self.inside in
    let flushed = c.flush_active_noting-entries in
    let both = c.beside_copies-both in
    let notes = subst (λ j. Notes flushed.result.1.items j c.put_entries.new.journal.items c.pass.inside.entries.items c.put_entries.new.pass.items) both.ensures.journal (subst (λ p. Notes flushed.result.1.items both.new.journal.items c.put_entries.new.journal.items p c.put_entries.new.pass.items) both.ensures.pass c.put_entries.ensures.noted) in
    rw (← c.self.view_is, ← c.pass.view_is) (active_notes c.args.watermark flushed.result.1.items i.core.core flushed.new.tree.core i.journal.items c.put_entries.new.journal.items c.pass.inside.entries.items c.put_entries.new.pass.items notes flushed.result.0 flushed.ensures.flushes)

pub returns-clause-views : goal.returns-clause-views
returns-clause-views g c = subst (λ t. Stays t.tree.core c.flush_active_noting-entries.new.tree.core) c.self.view_is (kept g c).1

pub returns-clause-files : goal.returns-clause-files
returns-clause-files g c = rw (← c.self.view_is) c.flush_active_noting-entries.ensures.files
