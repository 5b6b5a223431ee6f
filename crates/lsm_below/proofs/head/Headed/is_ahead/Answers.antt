use Rattle.std.proofs.Common.{nat_lt, sym, subst, ◌∙◌, ap, arith}
use Rattle.lsm_below.specs.Entries.{HasBytes}
use Rattle.lsm_below.specs.Heads.{entry_head}
use Rattle.lsm_below.proofs.Heads.{head_before}
use Rattle.lsm_below.proofs.head.Headed.is_ahead.Goals as goal

pub returns-else-self-head : goal.returns-else-self-head
returns-else-self-head c =
    let own = c.self.invariant.0 ∙ ap entry_head c.self.view_is in
    ap (λ x. nat_lt x c.args.head) own ∙ (ap (λ x. nat_lt (entry_head c.args.self.now) x) c.requires
    ∙ head_before c.args.self.now c.args.key.now c.args.number (subst HasBytes c.self.view_is c.self.invariant.1) (λ k. omega (arith, c.type_inv.key k)) (λ same. c.if-self-head.false (own ∙ same ∙ sym c.requires)))
