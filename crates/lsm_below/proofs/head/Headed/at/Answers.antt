use Rattle.std.proofs.Common.{get_or, sym, subst, ap, ◌∙◌}
use Rattle.std.proofs.lemmas.List.{get_or-map}
use Rattle.lsm_below.specs.Entries.{HasBytes}
use Rattle.lsm_below.specs.Heads.{entry_head}
use Rattle.lsm_below.proofs.head.Headed.at.Goals as goal

pub new-requires-clause-head : goal.new-requires-clause-head
new-requires-clause-head c =
    let es = c.args.entries.now in
    let p = c.args.place in
    let e = c.index-entries-place.result in
    ap (λ l. get_or l p 0) c.requires.heads.same ∙ (get_or-map entry_head es p e 0 c.requires.place ∙ ap entry_head (sym c.index-entries-place.is))

pub new-requires-clause-bytes : goal.new-requires-clause-bytes
new-requires-clause-bytes c = subst HasBytes (sym c.index-entries-place.is) (c.requires.heads.bytes c.args.place c.index-entries-place.result c.requires.place)
