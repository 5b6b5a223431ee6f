use Rattle.std.proofs.Common.{refl, subst}
use Rattle.lsm_state.specs.Core.{Core}
use Rattle.lsm_state.specs.Commits.{UpholdsFiles}
use Rattle.lsm_state.proofs.BehindRecords.{put_upholds}
use Rattle.lsm_state.proofs.tree.TreeState.remove_records_below.Goals as goal

pub returns-clause-upholds : goal.returns-clause-upholds
returns-clause-upholds g c tells =
    let w = g.S.Store.world in
    let i = c.self.inside in
    let old : Core = record { config = i.config; memtables = i.memtables; history = i.history; next_memtable = i.next_memtable; next_table = i.next_table; next_job = i.next_job; moment = i.moment; seqno = i.seqno; visible_seqno = i.visible_seqno; flush = i.flush; lost = i.lost; merges = i.merges } in
    subst (λ t. UpholdsFiles (w t.store) (w c.remove_below.new.store) t.core old) c.self.view_is (put_upholds (w i.store) (w c.remove_below.new.store) old old (c.remove_below.ensures.stored tells) refl refl refl)
