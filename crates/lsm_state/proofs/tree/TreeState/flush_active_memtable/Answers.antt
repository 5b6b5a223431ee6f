use Rattle.std.proofs.Common.{Ok, Err, ap, rules}
use Rattle.lsm_state.specs.Core.{versions_left, written_of}
use Rattle.lsm_state.specs.Cleaning.{none_drawn}
use Rattle.lsm_state.proofs.Files.{rotated_files}
use Rattle.lsm_state.proofs.WholeFlushes.{upholds_same}
use Rattle.lsm_state.proofs.tree.TreeState.flush_active_memtable.Goals as goal

pub returns-in-Err-clause-upholds : goal.returns-in-Err-clause-upholds
returns-in-Err-clause-upholds g c tells =
    let w = g.S.Store.world in
    let old = c.args.self.now in
    let new = c.rotate_memtable.new.self in
    let same = ap (λ t. t.core) c.in-Err.ensures.err in
    upholds_same (w old.store) (w new.store) old.core new.core (ap w c.rotate_memtable.ensures.store) (ap versions_left same) (ap written_of same) (c.stays_stored.ensures tells)

pub returns-in-Err-clause-files : goal.returns-in-Err-clause-files
returns-in-Err-clause-files g c =
    let w = g.S.Store.world in
    let old = c.args.self.now in
    let new = c.rotate_memtable.new.self in
    record { causes = search rules; gone = search rules; rests = tt; no_call = search rules; flush_open = search rules; refused = λ tells small known. none_drawn old.core.next_table new.core.next_table (w old.store) (w new.store) (ap (λ t. t.core.next_table) c.in-Err.ensures.err) }

pub returns-in-Err-flush-clause-files : goal.returns-in-Err-flush-clause-files
returns-in-Err-flush-clause-files g c = rotated_files g.S.Store.tells g.S.Store.world c.in-Ok.sealed (Err c.in-Err-flush.error) c.args.self.now c.rotate_memtable.new.self c.flush.new.self c.in-Ok.ensures.ok c.rotate_memtable.ensures.store c.in-Err-flush.ensures.files

pub returns-in-Ok-flush-clause-files : goal.returns-in-Ok-flush-clause-files
returns-in-Ok-flush-clause-files g c = rotated_files g.S.Store.tells g.S.Store.world c.in-Ok.sealed (Ok c.in-Ok-flush.flushed) c.args.self.now c.rotate_memtable.new.self c.flush.new.self c.in-Ok.ensures.ok c.rotate_memtable.ensures.store c.in-Ok-flush.ensures.files
