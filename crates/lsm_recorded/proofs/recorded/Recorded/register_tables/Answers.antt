use Rattle.std.proofs.Common.{◌≡◌, ◌++◌, ap, sym, subst, ◌∙◌}
use Rattle.lsm_versions.specs.Levels.{placed_of}
use Rattle.lsm_state.specs.Commits.{Upholds}
use Rattle.lsm_state.specs.Flushes.{spent}
use Rattle.lsm_recorded.specs.Recorded.{IsRecorded, Stays}
use Rattle.lsm_commit.specs.Foreign.{AtRest}
use Rattle.lsm_recorded.proofs.FlushedFiles.{spent_upholds}
use Rattle.lsm_recorded.proofs.FlushingLemmas.{register_recorded}
use Rattle.lsm_recorded.proofs.recorded.Recorded.register_tables.Given.{Over}
use Rattle.lsm_recorded.proofs.recorded.Recorded.register_tables.Goals as goal

pub returns-in_default-clause-upholds : goal.returns-in_default-clause-upholds
returns-in_default-clause-upholds g c tells =
    let w = g.S.Store.world in
    let i = c.self.inside in
    let new = c.abandon_flush.new.self in
    let leaves = subst (λ t. AtRest (w t.tree.store)) (sym c.self.view_is) (c.stays_stored.ensures tells) in
    subst (λ t. Upholds (w t.tree.store) (w new.store) t.tree.core new.core) c.self.view_is
    (spent_upholds (w i.core.store) (w new.store) c.args.job.job.number i.core.core new.core leaves (ap w c.abandon_flush.ensures.store) (subst (λ j. new.core ≡ spent j.number i.core.core) c.into_job.ensures c.abandon_flush.ensures.core))

-- what holds of it holds afterwards, and what snapshots see stays
module _ (g : Over) (c : goal.After-put_entries g) where
  kept : IsRecorded (placed_of c.self.inside.opened.levels) c.self.inside.least c.self.inside.marks c.put_entries.new.floor c.register_noting-entries.new.tree.core c.put_entries.new.journal.items × Stays c.self.inside.core.core c.register_noting-entries.new.tree.core
  kept =
      let i = c.self.inside in
      let registered = c.register_noting-entries in
      register_recorded (placed_of i.opened.levels) i.least i.marks c.reads_are_sound.ensures c.flushes_keep_reads.ensures i.floor c.put_entries.new.floor i.journal.items c.put_entries.new.journal.items registered.result.1.items (c.put_entries.ensures.noted.behind ∙ ap (λ j. j ++ registered.result.1.items) c.beside_copies-both.ensures.journal) c.put_entries.ensures.floor c.args.job registered.result.0 i.core.core registered.new.tree.core registered.ensures.registers c.self.invariant

pub invariant_of-self-2 : goal.invariant_of-self-2
invariant_of-self-2 g c = (kept g c).0

pub returns-clause-views : goal.returns-clause-views
returns-clause-views g c = subst (λ t. Stays t.tree.core c.register_noting-entries.new.tree.core) c.self.view_is (kept g c).1

pub returns-clause-files : goal.returns-clause-files
returns-clause-files g c = rw (← c.self.view_is) c.register_noting-entries.ensures.files
