use Rattle.std.proofs.Common.{refl, subst}
use Rattle.lsm_state.specs.Core.{Core}
use Rattle.lsm_state.specs.Commits.{UpholdsFiles}
use Rattle.lsm_state.proofs.BehindRecords.{put_upholds, same_changes}
use Rattle.lsm_state.proofs.tree.TreeState.read_record.Goals as goal

pub returns-clause-upholds : goal.returns-clause-upholds
returns-clause-upholds g c tells =
    let w = g.S.Store.world in
    let i = c.self.inside in
    let old : Core = record { config = i.config; memtables = i.memtables; history = i.history; next_memtable = i.next_memtable; next_table = i.next_table; next_job = i.next_job; moment = i.moment; seqno = i.seqno; visible_seqno = i.visible_seqno; flush = i.flush; lost = i.lost; merges = i.merges } in
    let new = c.read_record.new.store in
    let changes = same_changes (w i.store) (w new) (g.met.S.Store.only_now tells i.store) (c.read_record.ensures.same tells) in
    subst (λ t. UpholdsFiles (w t.store) (w new) t.core old) c.self.view_is (put_upholds (w i.store) (w new) old old (c.foreign_names_spare.ensures i.store new changes) refl refl refl)
