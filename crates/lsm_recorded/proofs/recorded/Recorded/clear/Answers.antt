use Rattle.std.proofs.Common.{◌++◌, ap, ◌∙◌, subst}
use Rattle.lsm_versions.specs.Levels.{placed_of}
use Rattle.lsm_recorded.specs.Recorded.{IsRecorded, StaysBehind}
use Rattle.lsm_recorded.proofs.ClearingLemmas.{clear_recorded}
use Rattle.lsm_recorded.proofs.recorded.Recorded.clear.Given.{Over}
use Rattle.lsm_recorded.proofs.recorded.Recorded.clear.Goals as goal

-- what holds of it holds afterwards, and what snapshots see stays
module _ (g : Over) (c : goal.After-put_entries g) where
  kept : IsRecorded (placed_of c.self.inside.opened.levels) c.self.inside.least c.self.inside.marks c.put_entries.new.floor c.clear_noting-entries.new.tree.core c.put_entries.new.journal.items × StaysBehind c.self.inside.journal.items c.put_entries.new.journal.items c.self.inside.core.core c.clear_noting-entries.new.tree.core
  kept =
      let i = c.self.inside in
      let cleared = c.clear_noting-entries in
      clear_recorded (placed_of i.opened.levels) i.least i.marks c.reads_are_sound.ensures c.clears_keep_reads.ensures i.floor c.put_entries.new.floor i.core.core cleared.new.tree.core i.journal.items c.put_entries.new.journal.items cleared.result.0 cleared.result.1.items cleared.ensures.clears (c.put_entries.ensures.noted.behind ∙ ap (λ j. j ++ cleared.result.1.items) c.beside_copies-both.ensures.journal) c.put_entries.ensures.floor c.self.invariant

pub invariant_of-self-2 : goal.invariant_of-self-2
invariant_of-self-2 g c = (kept g c).0

pub returns-clause-views : goal.returns-clause-views
returns-clause-views g c = subst (λ t. StaysBehind t.journal c.put_entries.new.journal.items t.tree.core c.clear_noting-entries.new.tree.core) c.self.view_is (kept g c).1
