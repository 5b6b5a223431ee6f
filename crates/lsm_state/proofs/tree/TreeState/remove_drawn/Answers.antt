use Rattle.std.proofs.Common.{◌≡◌, None, ap, sym, subst}
use Rattle.lsm_state.specs.Core.{Core}
use Rattle.lsm_state.specs.Commits.{Upholds}
use Rattle.lsm_state.specs.Cleaning.{AreDrawnBelow}
use Rattle.lsm_state.proofs.Replacing.{drawn_upholds}
use Rattle.lsm_state.proofs.tree.TreeState.remove_drawn.Goals as goal

pub returns-then-first-lt-LIMIT-clause-upholds : goal.returns-then-first-lt-LIMIT-clause-upholds
returns-then-first-lt-LIMIT-clause-upholds g c tells =
    let w = g.S.Store.world in
    let i = c.self.inside in
    let new = c.remove_written.new.store in
    let old : Core = record { config = i.config; memtables = i.memtables; history = i.history; next_memtable = i.next_memtable; next_table = i.next_table; next_job = i.next_job; moment = i.moment; seqno = i.seqno; visible_seqno = i.visible_seqno; flush = i.flush; lost = i.lost; merges = i.merges } in
    let same : old ≡ c.args.self.now.core = ap (λ t. t.core) c.self.view_is in
    let certain = subst (λ k. k.lost ≡ None) (sym same) c.requires.certain in
    let fresh = subst (AreDrawnBelow c.args.first) (sym same) (c.requires.fresh c.if-first-lt-LIMIT.true) in
    let did = c.remove_written.ensures in
    subst (λ t. Upholds (w t.store) (w new) t.core old) c.self.view_is (record { files = drawn_upholds (w i.store) (w new) old c.args.first (did.stored tells) certain fresh; passes = did.passes tells })
