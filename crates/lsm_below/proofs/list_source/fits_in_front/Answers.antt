use Rattle.std.proofs.Common.{ap, ◌∙◌, not, arith}
use Rattle.lsm_below.proofs.Fronts.{fits_none, fits_some}
use Rattle.lsm_below.proofs.list_source.fits_in_front.Goals as goal

pub returns-in-None : goal.returns-in-None
returns-in-None c =
    let l = c.in-None.ensures.item.3 in
    fits_none c.args.entry.now c.args.entries.now.items (omega arith)

pub returns-in-Some : goal.returns-in-Some
returns-in-Some c =
    ap not c.stands_before.ensures ∙ fits_some c.args.entry.now c.in-Some.first.now c.args.entries.now.items c.in-Some.ensures.item.3.0 c.in-Some.ensures.lookup
