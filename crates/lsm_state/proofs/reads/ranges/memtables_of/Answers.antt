use Rattle.std.proofs.Common.{◌∷◌, ◌++◌, [], flat_map, reverse, sym, subst, ap, ◌∙◌, append-nil}
use Rattle.lsm_parts.specs.Held.{entries_of}
use Rattle.lsm_state.specs.Copies.{AreThose}
use Rattle.lsm_state.proofs.Those.{found_more}
use Rattle.lsm_state.proofs.reads.ranges.memtables_of.Goals as goal

pub returns : goal.returns
returns c =
    let mems = c.args.memtables.now in
    let active = c.args.version.now.active_memtable in
    let one : AreThose mems (active ∷ []) c.push_found.new.list.items = λ f none.
    found_more mems f none active c.find.result c.new-list.result.items c.push_found.new.list.items c.find.ensures c.in_ok-push_found.ensures
    ∙ ap (λ l. flat_map (λ m. f m.now.entries) l ++ f (entries_of mems active)) c.new-list.ensures.items ∙ sym (append-nil (f (entries_of mems active))) in
    subst (λ ids. AreThose mems (active ∷ reverse ids) c.push_sealed.new.list.items) c.as_slice.ensures (c.in_ok-push_sealed.ensures (active ∷ []) one)
