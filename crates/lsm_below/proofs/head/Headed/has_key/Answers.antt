use Rattle.std.proofs.Common.{sym, ◌∙◌, ap}
use Rattle.lsm_below.specs.Heads.{key_head, entry_head}
use Rattle.lsm_below.proofs.Heads.{other_key}
use Rattle.lsm_below.proofs.head.Headed.has_key.Goals as goal

pub returns-else-self-head : goal.returns-else-self-head
returns-else-self-head c =
    let own = c.self.invariant.0 ∙ ap entry_head c.self.view_is in
    other_key c.args.self.now.key.user_key c.args.key.now (λ same. c.if-self-head.false (own ∙ (ap (λ k. key_head k) same ∙ sym c.requires)))
