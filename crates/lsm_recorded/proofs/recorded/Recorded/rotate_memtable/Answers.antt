use Rattle.std.proofs.Common.{subst}
use Rattle.lsm_versions.specs.Levels.{placed_of}
use Rattle.lsm_recorded.specs.Recorded.{Stays}
use Rattle.lsm_recorded.proofs.RecordedLemmas.{rotate_any, rotate_any_spares}
use Rattle.lsm_recorded.proofs.recorded.Recorded.rotate_memtable.Goals as goal

pub invariant_of-self : goal.invariant_of-self
invariant_of-self g c = rotate_any (placed_of c.self.inside.opened.levels) c.self.inside.least c.reads_are_sound.ensures c.rotate_memtable.result c.self.inside.core c.rotate_memtable.new.self c.self.inside.marks c.self.inside.floor c.self.inside.journal.items c.rotate_memtable.ensures.ok c.rotate_memtable.ensures.err c.self.invariant

pub returns-clause-views : goal.returns-clause-views
returns-clause-views g c =
    subst (λ t. Stays t.tree.core c.rotate_memtable.new.self.core) c.self.view_is
    (rotate_any_spares (placed_of c.self.inside.opened.levels) c.self.inside.least c.reads_are_sound.ensures c.rotate_memtable.result c.self.inside.core c.rotate_memtable.new.self c.self.inside.marks c.self.inside.floor c.self.inside.journal.items c.rotate_memtable.ensures.ok c.rotate_memtable.ensures.err c.self.invariant)
