use Rattle.std.proofs.Common.{◌<◌, Some, length, sym, ap, ◌∙◌, arith}
use Rattle.lsm_tables.proofs.table.heads.find.Goals as goal

pub returns-then-at-entries : goal.returns-then-at-entries
returns-then-at-entries c =
    let p = c.place_below-at.ensures in
    sym (c.entries_are_parted.ensures.past_end c.args.entries.now c.args.key.now c.args.snapshot c.place_below-at.result c.requires.rises (record { before = p.before; behind = p.behind }) (omega (arith, c.if-at-entries.true)))

pub returns-then-has_key : goal.returns-then-has_key
returns-then-has_key c =
    let es = c.args.entries.now in
    let p = c.place_below-at.ensures in
    let at = c.place_below-at.result in
    let e = c.at-entry.result in
    let inside : at < length es = omega (arith, p.bound, c.if-at-entries.false) in
    ap Some c.entry.ensures ∙ sym (c.entries_are_parted.ensures.found es c.args.key.now c.args.snapshot at e c.requires.rises (record { before = p.before; behind = p.behind }) inside (c.at-entry.ensures e) (sym c.has_key.ensures ∙ c.if-has_key.true))

pub returns-else-has_key : goal.returns-else-has_key
returns-else-has_key c =
    let es = c.args.entries.now in
    let p = c.place_below-at.ensures in
    let at = c.place_below-at.result in
    let e = c.at-entry.result in
    let inside : at < length es = omega (arith, p.bound, c.if-at-entries.false) in
    sym (c.entries_are_parted.ensures.other es c.args.key.now c.args.snapshot at e c.requires.rises (record { before = p.before; behind = p.behind }) inside (c.at-entry.ensures e) (sym c.has_key.ensures ∙ c.if-has_key.false))
