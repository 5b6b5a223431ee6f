use Rattle.std.proofs.Common.{map, reverse, ap, ◌∙◌}
use Rattle.lsm_model.specs.Views.{walk as walk_sources}
use Rattle.lsm_parts.specs.Held.{entries_of}
use Rattle.lsm_state.proofs.Walks.{stops, goes_on}
use Rattle.lsm_state.proofs.reads.walk.Goals as goal

pub returns-in-Some-walk_sealed : goal.returns-in-Some-walk_sealed
returns-in-Some-walk_sealed c =
    let sv = c.args.version.now in
    stops c.args.key.now c.args.snapshot (entries_of c.args.memtables.now) (reverse sv.sealed_memtables) sv.active_memtable _ c.in-Some-walk_sealed.entry.now c.in_default.ensures
    (c.in-Some-walk_sealed.ensures ∙ ap (λ l. walk_sources c.args.key.now c.args.snapshot (map (entries_of c.args.memtables.now) (reverse l))) c.as_slice.ensures)

pub returns : goal.returns
returns c =
    let sv = c.args.version.now in
    goes_on c.args.key.now c.args.snapshot (entries_of c.args.memtables.now) (reverse sv.sealed_memtables) sv.active_memtable _ _ c.in_default.ensures
    (c.in_default-walk_sealed.ensures ∙ ap (λ l. walk_sources c.args.key.now c.args.snapshot (map (entries_of c.args.memtables.now) (reverse l))) c.as_slice.ensures) c.get.ensures
