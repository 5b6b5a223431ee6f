use Rattle.std.proofs.Common.{◌≡◌, ◌<◌, ◌-◌, ◌^◌, None, sym, subst, refl, arith, rules}
use Rattle.lsm_commit.specs.Writing.{KeepsStored}
use Rattle.lsm_state.specs.Core.{Core}
use Rattle.lsm_state.specs.Commits.{Upholds}
use Rattle.lsm_state.proofs.Writing.{written_upholds}
use Rattle.lsm_state.proofs.tree.TreeState.write_files.Goals as goal

pub returns-clause-upholds : goal.returns-clause-upholds
returns-clause-upholds g c tells =
    let w = g.S.Store.world in
    let i = c.self.inside in
    let made = c.write_contents-written in
    let old : Core = record { config = i.config; memtables = i.memtables; history = i.history; next_memtable = i.next_memtable; next_table = i.next_table; next_job = i.next_job; moment = i.moment; seqno = i.seqno; visible_seqno = i.visible_seqno; flush = i.flush; lost = i.lost; merges = i.merges } in
    let new : Core = record old { next_table = c.set.new.self } in
    let certain = subst (λ t. t.core.lost ≡ None) (sym c.self.view_is) c.requires.certain in
    let lt : i.next_table < 2 ^ 64 - 1 = search (rules, arith) in
    subst (λ t. Upholds (w t.store) (w made.new.store) t.core new) c.self.view_is
    (record {
      files = written_upholds (w i.store) (w made.new.store) old new certain refl refl refl c.self.invariant.1 lt (subst (λ n. KeepsStored n (w i.store) (w made.new.store)) c.get-next.ensures (made.ensures.files tells).stored);
      passes = (made.ensures.files tells).passes;
    })
