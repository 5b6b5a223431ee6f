use Rattle.std.proofs.Common.{◌∙◌, ◌++◌, ap, sym, subst}
use Rattle.lsm_versions.specs.Levels.{placed_of}
use Rattle.lsm_recorded.specs.Recorded.{IsRecorded, Stays}
use Rattle.lsm_recorded.proofs.CompactingLemmas.{abandon_recorded, finish_recorded}
use Rattle.lsm_recorded.proofs.recorded.Recorded.finish_compaction.Given.{Over}
use Rattle.lsm_recorded.proofs.recorded.Recorded.finish_compaction.Goals as goal

pub invariant_of-self : goal.invariant_of-self
invariant_of-self g c =
    let i = c.self.inside in
    let opened = placed_of i.opened.levels in
    let new = c.abandon_compaction.new.self.core in
    subst (λ j. IsRecorded opened i.least i.marks i.floor new j) (sym c.beside_copies-both.ensures.journal)
    (abandon_recorded opened i.least i.marks c.reads_are_sound.ensures c.noted_compactions_keep_reads.ensures i.floor i.core.core new i.journal.items c.into_job.result c.abandon_compaction.ensures.deeds c.abandon_compaction.ensures.spends c.self.invariant).0

pub returns-in_default-clause-views : goal.returns-in_default-clause-views
returns-in_default-clause-views g c =
    let i = c.self.inside in
    let new = c.abandon_compaction.new.self.core in
    subst (λ t. Stays t.tree.core new) c.self.view_is
    (abandon_recorded (placed_of i.opened.levels) i.least i.marks c.reads_are_sound.ensures c.noted_compactions_keep_reads.ensures i.floor i.core.core new i.journal.items c.into_job.result c.abandon_compaction.ensures.deeds c.abandon_compaction.ensures.spends c.self.invariant).1

-- what holds of it holds afterwards, and what snapshots see stays
module _ (g : Over) (c : goal.After-put_entries g) where
  kept : IsRecorded (placed_of c.self.inside.opened.levels) c.self.inside.least c.self.inside.marks c.put_entries.new.floor c.finish_noting-entries.new.tree.core c.put_entries.new.journal.items × Stays c.self.inside.core.core c.finish_noting-entries.new.tree.core
  kept =
      let i = c.self.inside in
      let ended = c.finish_noting-entries in
      let es = ended.result.1.items in
      let told = c.put_entries.ensures.noted.behind ∙ ap (λ j. j ++ es) c.beside_copies-both.ensures.journal in
      finish_recorded (placed_of i.opened.levels) i.least i.marks c.reads_are_sound.ensures i.floor c.put_entries.new.floor i.core.core ended.new.tree.core i.journal.items c.put_entries.new.journal.items c.noted_compactions_keep_reads.ensures c.args.merged.job ended.result.0 es ended.ensures.ends told c.put_entries.ensures.floor c.self.invariant

pub invariant_of-self-2 : goal.invariant_of-self-2
invariant_of-self-2 g c = (kept g c).0

pub returns-clause-views : goal.returns-clause-views
returns-clause-views g c = subst (λ t. Stays t.tree.core c.finish_noting-entries.new.tree.core) c.self.view_is (kept g c).1

pub returns-clause-files : goal.returns-clause-files
returns-clause-files g c = rw (← c.self.view_is) c.finish_noting-entries.ensures.files
