use Rattle.std.proofs.Common.{subst}
use Rattle.lsm_versions.specs.Levels.{placed_of}
use Rattle.lsm_recorded.specs.Recorded.{IsRecorded, Stays}
use Rattle.lsm_recorded.proofs.FlushingLemmas.{unnoted_recorded, writes_goes}
use Rattle.lsm_recorded.proofs.recorded.Recorded.flush_to_tables.Given.{Over}
use Rattle.lsm_recorded.proofs.recorded.Recorded.flush_to_tables.Goals as goal

-- what holds of it holds afterwards, and what snapshots see stays
module _ (g : Over) (c : goal.After-flush_to_tables g) where
  kept : IsRecorded (placed_of c.self.inside.opened.levels) c.self.inside.least c.self.inside.marks c.self.inside.floor c.flush_to_tables.new.self.core c.self.inside.journal.items × Stays c.self.inside.core.core c.flush_to_tables.new.self.core
  kept =
      let i = c.self.inside in
      let old = i.core.core in
      let new = c.flush_to_tables.new.self.core in
      unnoted_recorded (placed_of i.opened.levels) i.least i.marks c.reads_are_sound.ensures i.floor old new i.journal.items (c.flushes_keep_reads.ensures.silent old new c.flush_to_tables.ensures.deeds) (writes_goes c.args.job c.flush_to_tables.result old new c.flush_to_tables.ensures.writes) c.self.invariant

pub invariant_of-self : goal.invariant_of-self
invariant_of-self g c = (kept g c).0

pub returns-clause-views : goal.returns-clause-views
returns-clause-views g c = subst (λ t. Stays t.tree.core c.flush_to_tables.new.self.core) c.self.view_is (kept g c).1
