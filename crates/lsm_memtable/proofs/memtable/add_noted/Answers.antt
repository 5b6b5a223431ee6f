use Rattle.std.proofs.Common.{◌≡◌, sym, subst, ap}
use Rattle.lsm_memtable.specs.Contents.{entries_of}
use Rattle.lsm_memtable.specs.Undo.{Undoes, AreUndone, undo_of}
use Rattle.lsm_memtable.proofs.Undone.{undone_more}
use Rattle.lsm_memtable.proofs.memtable.add_noted.Goals as goal

pub returns-clause-noted : goal.returns-clause-noted
returns-clause-noted c = λ before h.
    let old = entries_of c.args.content.now in
    let new = entries_of c.add_entry.new.content in
    let kept : entries_of c.house-entry.new.content ≡ old = ap (λ s. s.entries) c.house-entry.ensures.stays in
    let put = subst (λ l. Undoes (undo_of c.house-entry.result.key c.in_ok-replaced.replaced) l new) kept c.in_ok-replaced.ensures.undo in
    let undoes = subst (λ k. Undoes (undo_of k c.in_ok-replaced.replaced) old new) (sym c.in_ok-key.ensures) put in
    let items = rw c.unwrap.ensures at c.push.ensures.items in
    subst (λ l. AreUndone l before new) (sym items) (undone_more c.args.log.now.items (undo_of c.in_ok-key.key c.in_ok-replaced.replaced) before old new h undoes)
