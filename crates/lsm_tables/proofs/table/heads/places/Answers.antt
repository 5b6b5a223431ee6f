use Rattle.std.proofs.Common.{sym, ◌∙◌}
use Rattle.lsm_tables.proofs.Bounds.{part_from_min}
use Rattle.lsm_tables.proofs.table.heads.places.Goals as goal

pub returns-clause-within : goal.returns-clause-within
returns-clause-within c =
    let es = c.args.entries.now in
    rw c.min.ensures (part_from_min es c.lower_place-start.result c.upper_place-end.result
    ∙ sym (c.entries_are_parted.ensures.within es c.args.lower.now c.args.upper.now c.lower_place-start.result c.upper_place-end.result c.lower_place-start.ensures.parts c.upper_place-end.ensures.parts))
