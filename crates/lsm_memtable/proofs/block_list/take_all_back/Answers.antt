use Rattle.std.proofs.Common.{subst, sym}
use Rattle.lsm_memtable.specs.Blocks.{joined}
use Rattle.lsm_memtable.specs.Undo.{AreUndone}
use Rattle.lsm_memtable.proofs.Undone.{undone_last}
use Rattle.lsm_memtable.proofs.block_list.take_all_back.Goals as goal

pub take_back-requires-clause-made : goal.take_back-requires-clause-made
take_back-requires-clause-made c =
    let m = c.loop-undo.invariant.made in
    let r = undone_last c.pop.new.self.items c.in-Some.undo m.0 (joined c.loop-undo.blocks.items) (subst (λ l. AreUndone l m.0 (joined c.loop-undo.blocks.items)) c.in-Some.ensures.items m.1) in
    (r.0, r.2)

pub loop-undo-preserved : goal.loop-undo-preserved
loop-undo-preserved c =
    let now = joined c.loop-undo.blocks.items in
    let us = c.pop.new.self.items in
    let m = c.loop-undo.invariant.made in
    let r = undone_last us c.in-Some.undo m.0 now (subst (λ l. AreUndone l m.0 now) c.in-Some.ensures.items m.1) in
    record {
      sound = c.take_back.ensures.sound;
      made = (m.0, subst (AreUndone us m.0) (sym (c.take_back.ensures.same r.0 r.2)) r.1);
      same = λ before h.
          let s = undone_last us c.in-Some.undo before now (subst (λ l. AreUndone l before now) c.in-Some.ensures.items (c.loop-undo.invariant.same before h)) in
          subst (AreUndone us before) (sym (c.take_back.ensures.same s.0 s.2)) s.1;
    }
