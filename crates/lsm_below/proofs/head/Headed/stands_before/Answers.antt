use Rattle.std.proofs.Common.{nat_lt, sym, subst, ◌∙◌, ap}
use Rattle.lsm_below.specs.Entries.{HasBytes}
use Rattle.lsm_below.specs.Heads.{entry_head}
use Rattle.lsm_below.proofs.Heads.{heads_before}
use Rattle.lsm_below.proofs.head.Headed.stands_before.Goals as goal

pub returns-else-self-other : goal.returns-else-self-other
returns-else-self-other c =
    let own = c.self.invariant.0 ∙ ap entry_head c.self.view_is in
    let his = c.other.invariant.0 ∙ ap entry_head c.other.view_is in
    ap (λ x. nat_lt x c.other.inside.head) own ∙ (ap (λ x. nat_lt (entry_head c.args.self.now) x) his
    ∙ heads_before c.args.self.now c.args.other.now (subst HasBytes c.self.view_is c.self.invariant.1) (subst HasBytes c.other.view_is c.other.invariant.1) (λ same. c.if-self-other.false (own ∙ same ∙ sym his)))
