use Rattle.std.proofs.Common.{[], refl}
use Rattle.lsm_commit.proofs.Tabled.{table_is}
use Rattle.lsm_commit.proofs.tables.table_of.Goals as goal

pub returns-in-Ok-clause-table : goal.returns-in-Ok-clause-table
returns-in-Ok-clause-table c =
    let t = c.in-Ok.table in
    let same = c.no_image_begins_another.ensures t.created_at c.args.made_at t.entries c.args.entries.now c.args.file c.args.file [] [] c.in-Ok.ensures.entries
    (record { moment = c.ranges.made_at.fits; table = c.requires.table; spelling = c.requires.file }) refl in
    table_is t c.args.id c.args.made_at c.args.entries.now c.in-Ok.ensures.id same.0 same.1
