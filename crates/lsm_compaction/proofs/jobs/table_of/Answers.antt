use Rattle.std.proofs.Common.{List, ℕ, [], ◌++◌, ap}
use Rattle.lsm_tables.specs.Image.{IsImageOf}
use Rattle.lsm_compaction.proofs.jobs.table_of.Goals as goal

pub returns-in-Ok-clause-made : goal.returns-in-Ok-clause-made
returns-in-Ok-clause-made c =
    let t = c.in-Ok.table in
    let file = c.args.file.now in
    let made : IsImageOf c.args.made_at c.requires.entries file = record { moment = c.ranges.made_at.fits; table = c.requires.table; spelling = c.requires.spelled } in
    let same = c.no_image_begins_another.ensures t.created_at c.args.made_at t.entries c.requires.entries c.in_ok-bytes.bytes file [] [] c.in-Ok.ensures.entries made (ap (λ (l : List ℕ). l ++ []) c.in_ok-bytes.ensures) in
    same.0
