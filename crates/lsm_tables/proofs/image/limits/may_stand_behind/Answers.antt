use Rattle.std.proofs.Common.{sym, ◌∙◌}
use Rattle.lsm_tables.proofs.Cutting.{writable_push, pushed_fits, pushed_follows}
use Rattle.lsm_tables.proofs.image.limits.may_stand_behind.Goals as goal

pub returns-then-fits_image : goal.returns-then-fits_image
returns-then-fits_image c =
    let es = c.args.entries.now in
    let e = c.args.entry.now in
    (λ yes. writable_push c.entries_are_ordered.ensures es e c.requires (c.fits_image.ensures.0 c.if-fits_image.true) (sym c.may_follow.ensures ∙ yes), λ w. c.may_follow.ensures ∙ pushed_follows es e w)

pub returns-else-fits_image : goal.returns-else-fits_image
returns-else-fits_image c =
    let es = c.args.entries.now in
    let e = c.args.entry.now in
    (λ yes. cc (yes, c.if-fits_image.false), λ w. c.fits_image.ensures.1 (pushed_fits es e w))
