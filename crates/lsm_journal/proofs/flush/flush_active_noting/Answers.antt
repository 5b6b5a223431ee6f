use Rattle.std.proofs.Common.{ap, subst, rules}
use Rattle.lsm_state.specs.Cleaning.{none_drawn}
use Rattle.lsm_state.specs.Commits.{Upholds}
use Rattle.lsm_state.proofs.Files.{rotated_files}
use Rattle.lsm_journal.proofs.Rotated.{rotated_upholds, active_noted}
use Rattle.lsm_journal.proofs.flush.flush_active_noting.Goals as goal

pub returns-in-Err-clause-files : goal.returns-in-Err-clause-files
returns-in-Err-clause-files g c =
    let w = g.S.Store.world in
    let old = c.args.tree.now in
    let new = c.rotate_memtable.new.self in
    record { causes = search rules; gone = search rules; rests = tt; no_call = search rules; flush_open = search rules; refused = λ tells small known. none_drawn old.core.next_table new.core.next_table (w old.store) (w new.store) (ap (λ t. t.core.next_table) c.in-Err.ensures.err) }

pub returns-clause-flushes : goal.returns-clause-flushes
returns-clause-flushes g c =
    let flushed = c.flush_noting-entries in
    rw c.behind.ensures (active_noted c.args.watermark c.in-Ok.sealed flushed.result.0 flushed.result.1.items c.args.tree.now.core c.rotate_memtable.new.self.core flushed.new.tree.core c.in-Ok.ensures.ok flushed.ensures.flushes)

pub returns-clause-upholds : goal.returns-clause-upholds
returns-clause-upholds g c tells =
    let w = g.S.Store.world in
    let new = c.flush_noting-entries.new.tree in
    let mid = c.rotate_memtable.new.self in
    rotated_upholds (w c.args.tree.now.store) (w new.store) c.args.tree.now.core mid.core new.core c.in-Ok.sealed c.in-Ok.ensures.ok
    (subst (λ s. Upholds (w s) (w new.store) mid.core new.core) c.rotate_memtable.ensures.store (c.flush_noting-entries.ensures.upholds tells))

pub returns-clause-files : goal.returns-clause-files
returns-clause-files g c =
    let flushed = c.flush_noting-entries in
    rw c.behind.ensures (rotated_files g.S.Store.tells g.S.Store.world c.in-Ok.sealed flushed.result.0 c.args.tree.now c.rotate_memtable.new.self flushed.new.tree c.in-Ok.ensures.ok c.rotate_memtable.ensures.store flushed.ensures.files)
