use Rattle.std.proofs.Common.{subst}
use Rattle.lsm_versions.specs.Levels.{placed_of}
use Rattle.lsm_recorded.specs.Recorded.{IsRecorded, Stays}
use Rattle.lsm_recorded.proofs.CompactingLemmas.{abandon_recorded}
use Rattle.lsm_recorded.proofs.recorded.Recorded.abandon_compaction.Given.{Over}
use Rattle.lsm_recorded.proofs.recorded.Recorded.abandon_compaction.Goals as goal

-- what holds of it holds afterwards, and what snapshots see stays
module _ (g : Over) (c : goal.After-abandon_compaction g) where
  kept : IsRecorded (placed_of c.self.inside.opened.levels) c.self.inside.least c.self.inside.marks c.self.inside.floor c.abandon_compaction.new.self.core c.self.inside.journal.items × Stays c.self.inside.core.core c.abandon_compaction.new.self.core
  kept =
      let i = c.self.inside in
      let new = c.abandon_compaction.new.self.core in
      abandon_recorded (placed_of i.opened.levels) i.least i.marks c.reads_are_sound.ensures c.noted_compactions_keep_reads.ensures i.floor i.core.core new i.journal.items c.args.job c.abandon_compaction.ensures.deeds c.abandon_compaction.ensures.spends c.self.invariant

pub invariant_of-self : goal.invariant_of-self
invariant_of-self g c = (kept g c).0

pub returns-clause-views : goal.returns-clause-views
returns-clause-views g c = subst (λ t. Stays t.tree.core c.abandon_compaction.new.self.core) c.self.view_is (kept g c).1
