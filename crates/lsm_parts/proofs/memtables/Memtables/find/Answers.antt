use Rattle.std.proofs.Common.{sym, ap, ◌∙◌, option_copied}
use Rattle.lsm_parts.proofs.Holding.{found_behind, none_behind}
use Rattle.lsm_parts.proofs.memtables.Memtables.find.Goals as goal

pub find_sealed-requires : goal.find_sealed-requires
find_sealed-requires c = (c.self.inside.active.id, c.self.invariant.1)

pub returns-in-Some : goal.returns-in-Some
returns-in-Some c =
    let i = c.self.inside in
    rw (← c.self.view_is, c.as_memtable.ensures) (found_behind i.active i.sealed.items c.args.id (λ same. c.if-id.false (c.id.ensures ∙ same)) c.in-Some.memtable.now (sym c.find_sealed.ensures ∙ ap option_copied c.in-Some.is))

pub returns-in-None : goal.returns-in-None
returns-in-None c =
    let i = c.self.inside in
    rw (← c.self.view_is) (none_behind i.active i.sealed.items c.args.id (λ same. c.if-id.false (c.id.ensures ∙ same)) (sym c.find_sealed.ensures ∙ ap option_copied c.in-None.is))
